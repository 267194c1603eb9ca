-- The loops of `blocks::writing::put_part`.
use mathlib.Core.Path.{◌≡◌}
use mathlib.Core.List.{List}
use Prim.Native.Nat.{ℕ}
use lib.ListN.{length}
use Rattle.slices.specs.Tables.{rows}
use Rattle.packed.specs.Layout.{decode}
use Rattle.numbers.specs.Storing.{Stored}
use Rattle.format.specs.Rows.{line}
use Rattle.blocks.specs.Text.{progress_values_of}
use Rattle.blocks.proofs.writing.put_part.Given as goal

abbrev pub row : List ℕ → ℕ → ℕ → List ℕ
row sheet q p = line (progress_values_of (decode sheet) q p)

abbrev pub invariant-loop-p : goal.invariant-loop-p
invariant-loop-p l = (length l.row ≡ 35) × Stored l.initial.out l.at (rows l.p (row l.sheet l.q)) l.out l.r
