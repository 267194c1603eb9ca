-- A refusal in words, for people: where it is, its number, and the sentence of its reason. Assumes nothing.
use Rattle.std.specs.Prelude.{Bool, true, false, cond, not, ◌&&◌, ◌||◌, List, ◌++◌, ℕ, zero, suc, ◌+◌, eqb, ltb}
use Rattle.std.specs.Prelude.{length, get_or}
use Prim.Native.Char.{code}
use Rattle.slices.specs.declared.Part.{Part}
use Rattle.slices.specs.declared.Part.TheVariants.{First, Second, Opening, Loop, Out, Work, Cursor, Seconds}
use Rattle.slices.specs.declared.Reason.{Reason}
use Rattle.slices.specs.declared.Reason.TheVariants.{SheetLength, LetterCount, StateCount, ProgressSize, NextState}
use Rattle.slices.specs.declared.Reason.TheVariants.{MarkByte, LettersDiffer, EmptyLoop, UnknownLetter, UnknownLevel}
use Rattle.slices.specs.declared.Reason.TheVariants.{OffLayout, OutOfTurn, NoneAccepting, SecondsRange, ProductSize}
use Rattle.slices.specs.declared.Reason.TheVariants.{TooLittleRoom, TooFewCells, FoundTooLong, CursorPastEnd}
use Rattle.slices.specs.declared.Reason.TheVariants.{FileTooLong, PartTooLong, CartCount, CartLength}
use Rattle.slices.specs.declared.Refusal.{Refusal}
use Rattle.slices.specs.Refusals.{number_of}
use Rattle.slices.specs.Texts.{bytes}
use Rattle.numbers.specs.Digits.{field}
use Rattle.wording.specs.declared.Position.{Position}

-- Why something is refused.
unfoldable pub sentence : Reason → List ℕ
sentence SheetLength = bytes "the packed sheet is too short or too long"
sentence LetterCount = bytes "the number of scenes is not from 1 to 32"
sentence StateCount = bytes "the number of places is not from 1 to 32, or 16 in a drawn automaton"
sentence ProgressSize = bytes "the number of loop places is not from 1 to 32"
sentence NextState = bytes "this place is not below the number of places of its automaton"
sentence MarkByte = bytes "this mark is neither 0 nor 1"
sentence LettersDiffer = bytes "the two sheets have different numbers of scenes"
sentence EmptyLoop = bytes "the show has no loop"
sentence UnknownLetter = bytes "this scene is not below the number of scenes"
sentence UnknownLevel = bytes "the level is neither 3 nor 4"
sentence OffLayout = bytes "the text departs from its layout here, or ends too early"
sentence OutOfTurn = bytes "another scene, place or loop place is due here"
sentence NoneAccepting = bytes "the automaton has no accepting place"
sentence SecondsRange = bytes "the seconds are not from 1 to 999"
sentence ProductSize = bytes "the result has more than 32 places or loop places"
sentence TooLittleRoom = bytes "there is too little room for the result"
sentence TooFewCells = bytes "the comparison needs more work cells than there are"
sentence FoundTooLong = bytes "the show found is longer than the room for it"
sentence CursorPastEnd = bytes "the cursor stands past the end of its part"
sentence FileTooLong = bytes "the file has more than 65,536 bytes"
sentence PartTooLong = bytes "this part of the show has more than 65,536 scenes"
sentence CartCount = bytes "the cart has no show, or more than 64"
sentence CartLength = bytes "the cart is too short or too long"

-- The line and the column of a place, both from 1: a line feed ends its line.
abbrev pub beyond : Position → ℕ → Position
beyond q x =
    cond (eqb x (code "\n")) (record { line = q.line + 1; column = 1 })
    (record { line = q.line; column = q.column + 1 })

unfoldable pub position_at : List ℕ → ℕ → Position
position_at t zero = record { line = 1; column = 1 }
position_at t (suc p) = beyond (position_at t p) (get_or t p 0)

-- A file that a program was given: its name, its bytes, and whether they are lines of text.
pub record File : Type 0 where
  pub name : List ℕ
  pub held : List ℕ
  pub lined : Bool

-- A place of a file: ":LINE:COLUMN:" in a text, ": byte PLACE:" in other bytes.
abbrev pub line_place : Position → List ℕ
line_place q = bytes ":" ++ field q.line (code ":") ++ field q.column (code ":")

abbrev pub byte_place : ℕ → List ℕ
byte_place p = bytes ": byte " ++ field p (code ":")

abbrev pub place_in : List ℕ → Bool → ℕ → List ℕ
place_in t lined p = cond (not lined || ltb (length t) p) (byte_place p) (line_place (position_at t p))

-- Scene counts that differ are at no one place of the second sheet.
abbrev pub place_for : Reason → File → ℕ → List ℕ
place_for LettersDiffer f p = bytes ":"
place_for _ f p = place_in f.held f.lined p

abbrev pub spot : File → Refusal → List ℕ
spot f r = f.name ++ place_for r.reason f r.place

-- Which file a part is: the first, the second, or none.
abbrev pub file_of_value : Part → ℕ
file_of_value First = 1
file_of_value Second = 2
file_of_value Opening = 0
file_of_value Loop = 0
file_of_value Out = 0
file_of_value Work = 0
file_of_value Cursor = 0
file_of_value Seconds = 0

-- A refusal of a file names it; any other names the program.
abbrev pub culprit : List ℕ → File → File → Refusal → List ℕ
culprit program one two r =
    cond (eqb (file_of_value r.part) 1) (spot one r) (cond (eqb (file_of_value r.part) 2) (spot two r)
    (program ++ bytes ":"))

-- " refusal NUMBER: sentence" and a line feed
abbrev pub reason_line : Reason → List ℕ
reason_line q = bytes " refusal " ++ field (number_of q) (code ":") ++ bytes " " ++ sentence q ++ bytes "\n"

unfoldable pub refusal_words_of : List ℕ → File → File → Refusal → List ℕ
refusal_words_of program one two r = culprit program one two r ++ reason_line r.reason

-- Which part of a show a refusal speaks of: the opening, the loop, or none.
abbrev pub show_part_of : Part → ℕ
show_part_of First = 0
show_part_of Second = 0
show_part_of Opening = 1
show_part_of Loop = 2
show_part_of Out = 0
show_part_of Work = 0
show_part_of Cursor = 0
show_part_of Seconds = 0

abbrev pub is_unknown_letter : Reason → Bool
is_unknown_letter UnknownLetter = true
is_unknown_letter _ = false

-- A scene that the sheet has not, of a part of at most 4,096 scenes.
abbrev pub is_scene_of : Refusal → Bool
is_scene_of r = is_unknown_letter r.reason && (ltb 0 (show_part_of r.part) && ltb r.place 4096)

-- Where it stands in the show's text: in a line of its own behind the line of names, the m opening lines first.
abbrev pub scene_position_of : ℕ → Refusal → Position
scene_position_of m r =
    cond (eqb (show_part_of r.part) 1) (record { line = r.place + 2; column = length (bytes "opening ") + 1 })
    (record { line = m + r.place + 2; column = length (bytes "loop ") + 1 })

abbrev pub is_too_little_room : Reason → Bool
is_too_little_room TooLittleRoom = true
is_too_little_room _ = false

-- A part that is longer than the 4,096 scenes that a program takes.
abbrev pub is_long_of : Refusal → Bool
is_long_of r = is_too_little_room r.reason && ltb 0 (show_part_of r.part)

abbrev pub long_opening : List ℕ
long_opening = bytes ": refusal 21: the opening has more than 4,096 scenes\n"

abbrev pub long_loop : List ℕ
long_loop = bytes ": refusal 21: the loop has more than 4,096 scenes\n"

abbrev pub long_words : List ℕ → Refusal → List ℕ
long_words name r = cond (eqb (show_part_of r.part) 1) (name ++ long_opening) (name ++ long_loop)

-- A refusal of such a part names the show's file; any other is as of two files.
unfoldable pub part_words_of : List ℕ → File → File → Refusal → List ℕ
part_words_of program one two r = cond (is_long_of r) (long_words two.name r) (refusal_words_of program one two r)

-- For a program whose second file is a show's text with m opening lines.
unfoldable pub show_words_of : List ℕ → File → File → ℕ → Refusal → List ℕ
show_words_of program one two m r =
    cond (is_scene_of r) (two.name ++ line_place (scene_position_of m r) ++ reason_line r.reason)
    (part_words_of program one two r)
