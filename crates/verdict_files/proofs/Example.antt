-- What the verdict program is refused for, in its order: the sheet, the text with part second, the verdict's own of a scene that the sheet has not.
use Rattle.slices.specs.declared.Reason.TheVariants.{SheetLength, EmptyLoop, UnknownLetter, OffLayout}
use mathlib.Core.Path.{◌≡◌, refl}
use mathlib.Core.Bool.{false}
use mathlib.Core.List.{List, [], ◌∷◌}
use Prim.Native.Nat.{ℕ}
use Prim.Native.String.{String}
use Rattle.slices.specs.declared.Part.TheVariants.{First, Second, Opening, Loop}
use Rattle.slices.specs.Extremes.{least}
use Rattle.slices.specs.Refusals.{Fault, sound, fault_of, fault_in}
use Rattle.slices.specs.Scans.{first_outside_of}
use Rattle.slices.specs.LassoLetters.{period_fault, letters_fault}
use Rattle.slices.specs.Tables.{sum}
use Rattle.slices.specs.Texts.{bytes}
use Rattle.packed.specs.Layout.{progress_at_value}
use Rattle.packed.specs.Faults.{progress_fault, header_fault, tables_fault, sheet_fault}
use Rattle.numbers.specs.Numerals.{run_of, value_of, number_at_value}
use Rattle.format.specs.Format.{reading, seq, each}
use Rattle.format.specs.Lines.{labelled, repeats, repeated}
use Rattle.lasso_text.specs.Reading.{words_of}
use Rattle.verdict_files.specs.Judged.{file_verdict, judged}

-- sheet B of 01
abbrev b : List ℕ
b = 2 ∷ 1 ∷ 2 ∷ 0 ∷ 0 ∷ 1 ∷ 0 ∷ 1 ∷ 1 ∷ 0 ∷ 1 ∷ []

abbrev says : List ℕ → String → Fault
says sheet text = fault_in (judged false sheet (bytes text))

-- a bad sheet before no text; no text; no loop line; a scene above 31; a scene that B has not, of the opening before the loop's; of the loop; none
pub refusals :
    (says (2 ∷ []) "" ≡ fault_of SheetLength First 1) × (says b "" ≡ fault_of OffLayout Second 0) × (says b "part scene\n" ≡ fault_of EmptyLoop Second 11)
    × (says b "part scene\nloop 32\n" ≡ fault_of UnknownLetter Second 16) × (says b "part scene\nopening 2\nloop 3\n" ≡ fault_of UnknownLetter Opening 0)
    × (says b "part scene\nopening 1\nloop 0\nloop 3\n" ≡ fault_of UnknownLetter Loop 1) × (says b "part scene\nopening 1\nloop 0\n" ≡ sound)
unfolding judged file_verdict words_of reading seq each labelled repeated repeats least number_at_value run_of value_of first_outside_of letters_fault period_fault sheet_fault header_fault tables_fault progress_fault progress_at_value sum
refusals = (refl, refl, refl, refl, refl, refl, refl)
