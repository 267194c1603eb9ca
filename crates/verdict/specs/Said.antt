-- What is said on standard error, for people: a refusal in words and, where it is asked for, why a show is accepted or
-- rejected. Assumes nothing.
use Rattle.std.specs.Prelude.{Bool, true, false, cond, List, [], ◌++◌, ℕ, Result, Ok, Err}
use Prim.Native.Char.{code}
use Rattle.slices.specs.declared.Refusal.{Refusal}
use Rattle.slices.specs.Texts.{bytes}
use Rattle.fdfa.specs.Acceptance.{Verdict}
use Rattle.numbers.specs.Digits.{field}
use Rattle.sheet_forms.specs.Forms.{form_in_value, is_text_of}
use Rattle.wording.specs.Words.{File, show_words_of}
use Rattle.show_files.specs.Shown.{openings}
use Rattle.verdict_files.specs.Judged.{judged}

abbrev pub start_words : Bool → List ℕ
start_words true = bytes "accepted: after the opening and "
start_words false = bytes "rejected: after the opening and "

abbrev pub mark_words : Bool → List ℕ
mark_words true = bytes " which is marked\n"
mark_words false = bytes " which is not marked\n"

-- Where the sheet waits after the opening and i turns.
abbrev pub wait_words : List ℕ → Bool → ℕ → ℕ → List ℕ
wait_words name accepted i place =
    start_words accepted ++ field i (code " ") ++ bytes "turn(s) of the loop " ++ name
    ++ bytes " waits at place " ++ field place (code ";")

-- Where its loop automaton ends after j turns more.
abbrev pub end_words : Bool → ℕ → ℕ → List ℕ
end_words accepted j end =
    bytes " " ++ field j (code " ") ++ bytes "turn(s) more lead from loop place 0 to loop place "
    ++ field end (code ",") ++ mark_words accepted

abbrev pub verdict_words : List ℕ → Verdict → List ℕ
verdict_words name x = wait_words name x.accepted x.i x.state ++ end_words x.accepted x.j x.end

abbrev pub said_of : Bool → File → File → Result Verdict Refusal → List ℕ
said_of explain one two (Ok x) = cond explain (verdict_words one.name x) []
said_of explain one two (Err r) = show_words_of (bytes "verdict") one two (openings two.held) r

-- The sheet's file, which has lines or not by its form, and the show's, which is text.
abbrev pub sheet_file : Bool → List ℕ → List ℕ → File
sheet_file any name b = record { name = name; held = b; lined = is_text_of (form_in_value any b) }

abbrev pub show_file : List ℕ → List ℕ → File
show_file name t = record { name = name; held = t; lined = true }

abbrev pub message_text : Bool → Bool → List ℕ → List ℕ → List ℕ → List ℕ → List ℕ
message_text any explain one b two t = said_of explain (sheet_file any one b) (show_file two t) (judged any b t)
