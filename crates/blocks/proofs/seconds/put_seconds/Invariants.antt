-- The loops of `blocks::seconds::put_seconds`.
use mathlib.Core.List.{List}
use Prim.Native.Nat.{ℕ}
use Rattle.slices.specs.Tables.{rows}
use Rattle.numbers.specs.Storing.{Stored}
use Rattle.format.specs.Rows.{line}
use Rattle.blocks.specs.Text.{seconds_values}
use Rattle.blocks.proofs.seconds.put_seconds.Given as goal

abbrev pub row : List ℕ → ℕ → List ℕ
row w a = line (seconds_values w a)

abbrev pub invariant-loop-a : goal.invariant-loop-a
invariant-loop-a l = Stored l.initial.out l.initial.p (rows l.a (row l.seconds)) l.out l.p
