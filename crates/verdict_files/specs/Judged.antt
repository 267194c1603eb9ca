-- What the verdict program says of the bytes that came of two files, up to 65,537 of each: a sheet, and the text of a
-- lasso. Assumes nothing.
use Rattle.slices.specs.declared.Refusal.{Refusal}
use Rattle.std.specs.Prelude.{Bool, List, ℕ, length, Result, Ok, Err}
use Rattle.slices.specs.declared.Part.TheVariants.{First}
use Rattle.slices.specs.Refusals.{Fault, ◌then◌, unless}
use Rattle.slices.specs.LassoLetters.{letters_fault}
use Rattle.fdfa.specs.Family.{Words}
use Rattle.fdfa.specs.Acceptance.{Verdict, verdict}
use Rattle.packed.specs.Layout.{letter_count, decode}
use Rattle.packed.specs.Faults.{sheet_fault}
use Rattle.sheet_forms.specs.Forms.{form_in_value, sheet_as}
use Rattle.console.specs.Files.{lengths_fault, after}
use Rattle.lasso_text.specs.Reading.{words_in, read_fault}
use Rattle.show_files.specs.Shown.{shown}

-- The verdict's own refusals of the words that were read: letters that the sheet has not.
abbrev pub words_fault : List ℕ → Words → Fault
words_fault b w = letters_fault (letter_count b) w.prefix w.period

-- The sheet, then the text, then the room for prefix and period, then the letters that the sheet has not.
abbrev pub file_fault : List ℕ → List ℕ → ℕ → ℕ → Fault
file_fault b t o p = sheet_fault First b then read_fault (shown t) o p then words_fault b (words_in (shown t))

-- The verdict on the lasso of the text, or the refusal.
unfoldable pub file_verdict : List ℕ → List ℕ → ℕ → ℕ → Result Verdict Refusal
file_verdict b t o p =
    unless (file_fault b t o p) (verdict (decode b) (words_in (shown t)).prefix (words_in (shown t)).period)

-- The same of the sheet of a file, with room for 4,096 letters of each part.
abbrev pub of_sheet : Result (List ℕ) Refusal → List ℕ → Result Verdict Refusal
of_sheet (Err r) t = Err r
of_sheet (Ok b) t = file_verdict b t 4096 4096

-- The sheet that the first file is, in any form or packed only.
abbrev pub sheet_of : Bool → List ℕ → Result (List ℕ) Refusal
sheet_of any b = sheet_as (form_in_value any b) First b

-- Files that are too long are refused first.
unfoldable pub judged : Bool → List ℕ → List ℕ → Result Verdict Refusal
judged any b t = after (lengths_fault (length b) (length t)) (of_sheet (sheet_of any b) t)
