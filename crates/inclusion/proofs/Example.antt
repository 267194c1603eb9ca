-- Refusals of a comparison at their places, and their order: the unstarred row of 01 for A in B, and D in E of 01, whose first counter-show has an opening
-- and a loop of two scenes each.
use Rattle.slices.specs.declared.Reason.TheVariants.{SheetLength, LettersDiffer, TooFewCells, FoundTooLong}
use mathlib.Core.Path.{◌≡◌, refl}
use mathlib.Core.List.{List, [], ◌∷◌}
use Prim.Native.Nat.{ℕ}
use lib.ListN.{replicate}
use Rattle.slices.specs.declared.Part.TheVariants.{First, Second, Opening, Loop, Work}
use Rattle.slices.specs.Extremes.{least, largest}
use Rattle.slices.specs.Refusals.{Fault, sound, fault_of}
use Rattle.slices.specs.Scans.{first_outside_of}
use Rattle.slices.specs.Tables.{tab, rows, sum}
use Rattle.fdfa.specs.Normalization.{returning, return_from}
use Rattle.fdfa.specs.Enumeration.{first_letter, first_of_length, first_word}
use Rattle.fdfa.specs.Inclusion.{count_below, comparison}
use Rattle.packed.specs.Layout.{decode, progress_at_value}
use Rattle.packed.specs.Faults.{progress_fault, header_fault, tables_fault, sheet_fault}
use Rattle.inclusion.specs.Calls.{call_fault, compare_start, empty_start}

abbrev a : List ℕ
a = 2 ∷ 1 ∷ 1 ∷ 0 ∷ 0 ∷ 0 ∷ 0 ∷ 1 ∷ []

abbrev b : List ℕ
b = 2 ∷ 1 ∷ 2 ∷ 0 ∷ 0 ∷ 1 ∷ 0 ∷ 1 ∷ 1 ∷ 0 ∷ 1 ∷ []

abbrev d : List ℕ
d = 1 ∷ 2 ∷ 1 ∷ 1 ∷ 1 ∷ 0 ∷ 0 ∷ 1 ∷ 0 ∷ 1 ∷ []

abbrev e : List ℕ
e = 1 ∷ 3 ∷ 1 ∷ 1 ∷ 1 ∷ 1 ∷ 2 ∷ 1 ∷ 0 ∷ 0 ∷ 0 ∷ 1 ∷ 0 ∷ 0 ∷ []

abbrev says : List ℕ → List ℕ → ℕ → ℕ → ℕ → Fault
says x y o p w =
    call_fault (compare_start x y w) (comparison (decode x) (decode y))
    (record { opening = replicate o 0; period = replicate p 0; work = replicate w 0 })

pub refusals :
    (says a d 0 0 0 ≡ fault_of LettersDiffer Second 0) × (says a b 0 1 2 ≡ fault_of TooFewCells Work 3) × (says a b 0 1 3 ≡ sound) × (says d e 0 0 11 ≡ fault_of TooFewCells Work 12)
    × (says d e 1 1 12 ≡ fault_of FoundTooLong Opening 2) × (says d e 2 1 12 ≡ fault_of FoundTooLong Loop 2) × (says d e 2 2 12 ≡ sound)
unfolding least return_from returning first_letter first_of_length first_word largest count_below tab rows sum progress_at_value first_outside_of progress_fault header_fault tables_fault sheet_fault
refusals = (refl, refl, refl, refl, refl, refl, refl)

-- emptiness: the sheet, of part first, before the cells; n + n × K of them
pub empties : (empty_start (2 ∷ []) 0 ≡ fault_of SheetLength First 1) × (empty_start b 2 ≡ fault_of TooFewCells Work 3) × (empty_start b 3 ≡ sound)
unfolding least largest sum progress_at_value first_outside_of progress_fault header_fault tables_fault sheet_fault
empties = (refl, refl, refl)
