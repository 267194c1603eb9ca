-- Refusals of packed sheets at their places, and their order.
use Rattle.slices.specs.declared.Reason.TheVariants.{SheetLength, LetterCount, StateCount, ProgressSize, NextState}
use Rattle.slices.specs.declared.Reason.TheVariants.{MarkByte, LettersDiffer}
use mathlib.Core.Path.{◌≡◌, refl}
use mathlib.Core.List.{List, [], ◌∷◌}
use Prim.Native.Nat.{ℕ}
use Rattle.slices.specs.declared.Part.TheVariants.{First, Second}
use Rattle.slices.specs.Extremes.{least}
use Rattle.slices.specs.Refusals.{Fault, sound, fault_of}
use Rattle.slices.specs.Scans.{first_outside_of}
use Rattle.slices.specs.Tables.{sum}
use Rattle.packed.specs.Layout.{progress_at_value}
use Rattle.packed.specs.Faults.{progress_fault, header_fault, tables_fault, sheet_fault, pair_fault}

abbrev says : List ℕ → Fault
says b = sheet_fault First b

-- one byte, and it is bad; both counts bad; the second; sizes missing, and the one that is there bad; a size; a byte too few, with a bad next state; a
-- next state of the leading automaton before a bad mark; of a progress automaton; a mark; sheet A of 01
pub sheets :
    (says (33 ∷ []) ≡ fault_of SheetLength First 1) × (says (33 ∷ 0 ∷ []) ≡ fault_of LetterCount First 0) × (says (1 ∷ 33 ∷ []) ≡ fault_of StateCount First 1)
    × (says (1 ∷ 2 ∷ 0 ∷ []) ≡ fault_of SheetLength First 3) × (says (1 ∷ 2 ∷ 1 ∷ 0 ∷ []) ≡ fault_of ProgressSize First 3)
    × (says (2 ∷ 1 ∷ 1 ∷ 9 ∷ 0 ∷ 0 ∷ 0 ∷ []) ≡ fault_of SheetLength First 7) × (says (2 ∷ 1 ∷ 1 ∷ 0 ∷ 1 ∷ 0 ∷ 0 ∷ 2 ∷ []) ≡ fault_of NextState First 4)
    × (says (2 ∷ 1 ∷ 1 ∷ 0 ∷ 0 ∷ 0 ∷ 1 ∷ 2 ∷ []) ≡ fault_of NextState First 6) × (says (2 ∷ 1 ∷ 1 ∷ 0 ∷ 0 ∷ 0 ∷ 0 ∷ 2 ∷ []) ≡ fault_of MarkByte First 7)
    × (says (2 ∷ 1 ∷ 1 ∷ 0 ∷ 0 ∷ 0 ∷ 0 ∷ 1 ∷ []) ≡ sound)
unfolding sheet_fault header_fault tables_fault progress_fault progress_at_value sum first_outside_of least
sheets = (refl, refl, refl, refl, refl, refl, refl, refl, refl, refl)

-- the first sheet before the second, the second before 7
pub pairs :
    (pair_fault (33 ∷ []) [] ≡ fault_of SheetLength First 1) × (pair_fault (1 ∷ 1 ∷ 1 ∷ 0 ∷ 0 ∷ 1 ∷ []) (2 ∷ []) ≡ fault_of SheetLength Second 1)
    × (pair_fault (1 ∷ 1 ∷ 1 ∷ 0 ∷ 0 ∷ 1 ∷ []) (2 ∷ 1 ∷ 1 ∷ 0 ∷ 0 ∷ 0 ∷ 0 ∷ 1 ∷ []) ≡ fault_of LettersDiffer Second 0)
unfolding sheet_fault header_fault tables_fault progress_fault progress_at_value sum first_outside_of least
pairs = (refl, refl, refl)

-- of two automata: the mark of the first before the next state of the second
pub one-scan : says (1 ∷ 2 ∷ 1 ∷ 1 ∷ 0 ∷ 0 ∷ 0 ∷ 2 ∷ 1 ∷ 0 ∷ []) ≡ fault_of MarkByte First 7
unfolding sheet_fault header_fault tables_fault progress_fault progress_at_value sum first_outside_of least
one-scan = refl
