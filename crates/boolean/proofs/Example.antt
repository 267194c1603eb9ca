-- Refusals of a product at their places, and their order.
use Rattle.slices.specs.declared.Reason.TheVariants.{SheetLength, LettersDiffer, ProductSize, TooLittleRoom}
use mathlib.Core.Path.{◌≡◌, refl}
use mathlib.Core.List.{List, [], ◌∷◌, ◌++◌}
use Prim.Native.Nat.{ℕ, ◌+◌, ◌*◌}
use lib.ListN.{replicate}
use Rattle.slices.specs.declared.Part.TheVariants.{First, Second, Out}
use Rattle.slices.specs.Extremes.{least, largest}
use Rattle.slices.specs.Refusals.{sound, fault_of}
use Rattle.slices.specs.Scans.{first_outside_of}
use Rattle.slices.specs.Tables.{tab, rows, sum}
use Rattle.packed.specs.Layout.{progress_at_value}
use Rattle.packed.specs.Faults.{progress_fault, header_fault, tables_fault, sheet_fault}
use Rattle.boolean.specs.declared.Operation.TheVariants.{Both}
use Rattle.boolean.specs.Operations.{product_fault, complement_fault, intersection_bytes, union_bytes}

-- the sheet of s letters and n states of k progress states each, all next states and marks 0
abbrev plain : ℕ → ℕ → ℕ → List ℕ
plain s n k = s ∷ n ∷ (replicate n k ++ replicate (n * s + n * k * (s + 1)) 0)

-- the first sheet, the second, 7, each before what comes after; N before K; K; then the room
pub refusals :
    (product_fault Both (2 ∷ []) [] 0 ≡ fault_of SheetLength First 1) × (product_fault Both (plain 1 3 1) [] 0 ≡ fault_of SheetLength Second 0)
    × (product_fault Both (plain 1 3 6) (plain 2 11 6) 0 ≡ fault_of LettersDiffer Second 0) × (product_fault Both (plain 1 3 6) (plain 1 11 6) 0 ≡ fault_of ProductSize Out 33)
    × (product_fault Both (plain 1 1 6) (plain 1 1 6) 0 ≡ fault_of ProductSize Out 36) × (product_fault Both (plain 1 1 1) (plain 1 1 2) 7 ≡ fault_of TooLittleRoom Out 8)
    × (product_fault Both (plain 1 1 1) (plain 1 1 2) 8 ≡ sound)
unfolding sheet_fault header_fault tables_fault progress_fault progress_at_value sum first_outside_of least largest tab rows
refusals = (refl, refl, refl, refl, refl, refl, refl)

pub complements : (complement_fault (2 ∷ []) 0 ≡ fault_of SheetLength First 1) × (complement_fault (plain 1 1 1) 5 ≡ fault_of TooLittleRoom Out 6) × (complement_fault (plain 1 1 1) 6 ≡ sound)
unfolding sheet_fault header_fault tables_fault progress_fault progress_at_value sum first_outside_of least largest tab rows
complements = (refl, refl, refl)

-- 32 places and 32 loop places are allowed
pub largest-allowed :
    (product_fault Both (plain 1 4 1) (plain 1 8 1) 0 ≡ fault_of TooLittleRoom Out 130) × (product_fault Both (plain 1 1 4) (plain 1 1 8) 0 ≡ fault_of TooLittleRoom Out 68)
unfolding sheet_fault header_fault tables_fault progress_fault progress_at_value sum first_outside_of least largest tab rows
largest-allowed = (refl, refl)

-- D with E of 01: which number each pair of places has; C with a ring of three loop places: which each pair of loop places has
pub numbering :
    (intersection_bytes (1 ∷ 2 ∷ 1 ∷ 1 ∷ 1 ∷ 0 ∷ 0 ∷ 1 ∷ 0 ∷ 1 ∷ []) (1 ∷ 3 ∷ 1 ∷ 1 ∷ 1 ∷ 1 ∷ 2 ∷ 1 ∷ 0 ∷ 0 ∷ 0 ∷ 1 ∷ 0 ∷ 0 ∷ [])
    ≡ 1 ∷ 6 ∷ 1 ∷ 1 ∷ 1 ∷ 1 ∷ 1 ∷ 1 ∷ 4 ∷ 5 ∷ 4 ∷ 1 ∷ 2 ∷ 1 ∷ 0 ∷ 0 ∷ 0 ∷ 1 ∷ 0 ∷ 0 ∷ 0 ∷ 0 ∷ 0 ∷ 1 ∷ 0 ∷ 0 ∷ [])
    × (intersection_bytes (1 ∷ 1 ∷ 2 ∷ 0 ∷ 1 ∷ 0 ∷ 1 ∷ 0 ∷ []) (1 ∷ 1 ∷ 3 ∷ 0 ∷ 1 ∷ 2 ∷ 0 ∷ 1 ∷ 0 ∷ 0 ∷ [])
    ≡ 1 ∷ 1 ∷ 6 ∷ 0 ∷ 4 ∷ 5 ∷ 3 ∷ 1 ∷ 2 ∷ 0 ∷ 1 ∷ 0 ∷ 0 ∷ 0 ∷ 0 ∷ 0 ∷ [])
    × (union_bytes (1 ∷ 1 ∷ 2 ∷ 0 ∷ 1 ∷ 0 ∷ 1 ∷ 0 ∷ []) (1 ∷ 1 ∷ 3 ∷ 0 ∷ 1 ∷ 2 ∷ 0 ∷ 1 ∷ 0 ∷ 0 ∷ [])
    ≡ 1 ∷ 1 ∷ 6 ∷ 0 ∷ 4 ∷ 5 ∷ 3 ∷ 1 ∷ 2 ∷ 0 ∷ 1 ∷ 1 ∷ 1 ∷ 1 ∷ 0 ∷ 0 ∷ [])
unfolding progress_at_value sum tab rows
numbering = (refl, refl, refl)
