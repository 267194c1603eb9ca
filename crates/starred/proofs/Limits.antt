-- The largest counts are read: 32 letters, 32 states, 32 progress states. Apart from packed's other rows, since they take
-- longer to compute.
use mathlib.Core.Path.{◌≡◌, refl}
use mathlib.Core.List.{List, ◌∷◌, ◌++◌}
use Prim.Native.Nat.{ℕ, ◌+◌, ◌*◌}
use lib.ListN.{replicate}
use Rattle.slices.specs.declared.Part.TheVariants.{First}
use Rattle.slices.specs.Extremes.{least}
use Rattle.slices.specs.Refusals.{Fault, sound}
use Rattle.slices.specs.Scans.{first_outside_of}
use Rattle.slices.specs.Tables.{sum}
use Rattle.packed.specs.Layout.{progress_at_value}
use Rattle.packed.specs.Faults.{progress_fault, header_fault, tables_fault, sheet_fault}

-- the sheet of s letters and n states of k progress states each, all next states and marks 0
abbrev plain : ℕ → ℕ → ℕ → List ℕ
plain s n k = s ∷ n ∷ (replicate n k ++ replicate (n * s + n * k * (s + 1)) 0)

abbrev says : List ℕ → Fault
says b = sheet_fault First b

pub largest-read : (says (plain 32 1 1) ≡ sound) × (says (plain 1 32 1) ≡ sound) × (says (plain 1 1 32) ≡ sound)
unfolding sheet_fault header_fault tables_fault progress_fault progress_at_value sum first_outside_of least
largest-read = (refl, refl, refl)
