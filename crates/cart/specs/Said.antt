-- What is said on standard error, for people. Assumes nothing.
use Rattle.std.specs.Prelude.{◌≡◌, Bool, true, false, cond, not, List, [], ◌∷◌, ◌++◌, ℕ, ◌≤◌, ltb, length, take}
use Rattle.slices.specs.declared.Refusal.{Refusal}
use Rattle.slices.specs.Refusals.{Fault, sound, fault}
use Rattle.slices.specs.Texts.{bytes}
use Rattle.sheet_forms.specs.Forms.{form_of, is_text_of}
use Rattle.console.specs.Printed.{Shows}
use Rattle.wording.specs.Words.{File, refusal_words_of, show_words_of}
use Rattle.cart_files.specs.declared.Kept.{Kept}
use Rattle.cart_files.specs.declared.Kept.TheVariants.{Nothing, Text, Long}
use Rattle.cart_files.specs.declared.Collected.{Collected}
use Rattle.cart_files.specs.declared.Scene.{Scene}
use Rattle.cart_files.specs.Decided.{long_test, text_test, too_long_fault}
use Rattle.cart_files.specs.Gathered.{Gathered}

-- The sheet's file, which has lines or not by its form, and a show's, which is text; and none.
abbrev pub sheet_file : List ℕ → List ℕ → File
sheet_file name b = record { name = name; held = b; lined = is_text_of (form_of b) }

abbrev pub show_file : List ℕ → List ℕ → File
show_file name t = record { name = name; held = t; lined = true }

abbrev pub no_file : File
no_file = record { name = []; held = []; lined = false }

-- A refusal of the sheet.
abbrev pub sheet_words : File → Refusal → List ℕ
sheet_words one r = refusal_words_of (bytes "cart") one no_file r

-- A refusal of a show's file, which has m opening lines.
abbrev pub show_said : File → ℕ → Refusal → List ℕ
show_said f m r = show_words_of (bytes "cart") no_file f m r

-- Of its length, its text, or the room for a part.
abbrev pub text_words : File → Refusal → List ℕ
text_words f r = show_said f 0 r

-- Of a scene of the cart, which is said by its line in the text of its show. A show has 4,096 opening lines at most.
abbrev pub in_scene : Scene → Refusal → Refusal
in_scene x r = record { reason = r.reason; part = r.part; place = x.place }

abbrev pub opening_lines_of : Scene → ℕ
opening_lines_of x = cond (ltb x.openings 4096) x.openings 4096

abbrev pub unknown_words : List ℕ → Scene → Refusal → List ℕ
unknown_words name x r = show_said (show_file name []) (opening_lines_of x) (in_scene x r)

-- A show that the sheet rejects.
abbrev pub rejected_words : List ℕ → List ℕ → List ℕ
rejected_words name one = name ++ bytes ": rejected by " ++ one ++ bytes "\n"

-- A source whose file the cart's is.
abbrev pub one_words : List ℕ → List ℕ
one_words name = bytes "cart: CART and " ++ name ++ bytes " are one file, nothing is made\n"

-- Whether what is kept after a text is new: its refusal, and not that of a text before it.
abbrev pub keeps_nothing : Kept → Bool
keeps_nothing Nothing = true
keeps_nothing (Text r) = false
keeps_nothing (Long r) = false

abbrev pub keeps_long : Kept → Bool
keeps_long Nothing = false
keeps_long (Text r) = false
keeps_long (Long r) = true

abbrev pub is_new_of : Kept → Kept → Bool
is_new_of before Nothing = false
is_new_of before (Text r) = keeps_nothing before
is_new_of before (Long r) = not (keeps_long before)

abbrev pub refusal_in : Kept → Fault
refusal_in Nothing = sound
refusal_in (Text r) = fault r
refusal_in (Long r) = fault r

-- A refusal that is new is said of the file; else so many bytes are said as before.
pub record Says (f : File) (before after : Kept) (n : ℕ) (old new : List ℕ) (r : ℕ) : Type 0 where
  pub within : r ≤ length old
  pub same : is_new_of before after ≡ false → (r ≡ n) × (new ≡ old)
  pub fresh : (q : Refusal) → is_new_of before after ≡ true → refusal_in after ≡ fault q →
      Shows (text_words f q) old new r

-- The texts of some files.
unfoldable pub texts : List File → List (List ℕ)
texts [] = []
texts (f ∷ fs) = f.held ∷ texts fs

-- The words for the first of some files that a test refuses, if there is one.
abbrev pub words_or : Fault → File → List ℕ → List ℕ
words_or sound f x = x
words_or (fault r) f x = text_words f r

unfoldable pub first_words : (List ℕ → Fault) → List File → List ℕ
first_words test [] = []
first_words test (f ∷ fs) = words_or (test f.held) f (first_words test fs)

-- A file that is too long goes before one whose text is refused.
abbrev pub chosen : Fault → List ℕ → List ℕ → List ℕ
chosen sound x y = y
chosen (fault r) x y = x

abbrev pub kept_words : List File → List ℕ
kept_words fs = chosen (too_long_fault (texts fs)) (first_words long_test fs) (first_words text_test fs)

-- What is held of some shows' files, and said of the one that is refused first.
pub record Worded (fs : List File) (cart said : List ℕ) (held : Collected) (n : ℕ) : Type 0 where
  pub gathered : Gathered (texts fs) cart held
  pub words : take n said ≡ kept_words fs

-- The same of some files: of those that came.
pub record Sourced (cart said : List ℕ) (held : Collected) (n : ℕ) : Type 0 where
  pub files : List File
  pub worded : Worded files cart said held n
