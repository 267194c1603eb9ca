-- The loops of `blocks::writing::put_leading_rows`.
use mathlib.Core.Path.{◌≡◌}
use mathlib.Core.List.{List}
use Prim.Native.Nat.{ℕ}
use lib.ListN.{length}
use Rattle.slices.specs.Tables.{rows}
use Rattle.packed.specs.Layout.{decode}
use Rattle.numbers.specs.Storing.{Stored}
use Rattle.format.specs.Rows.{line}
use Rattle.blocks.specs.Text.{leading_values_of}
use Rattle.blocks.proofs.writing.put_leading_rows.Given as goal

abbrev pub row : List ℕ → ℕ → List ℕ
row sheet q = line (leading_values_of (decode sheet) q)

abbrev pub invariant-loop-q : goal.invariant-loop-q
invariant-loop-q l = (length l.row ≡ 35) × Stored l.initial.out l.at (rows l.q (row l.sheet)) l.out l.p
