-- The loops of `pairing::tabulating::tabulate`.
use mathlib.Core.List.{List}
use Prim.Native.Nat.{ℕ}
use Rattle.slices.specs.Tables.{tab}
use Rattle.slices.proofs.Filling.{RowFilling}
use Rattle.pairing.specs.declared.Beside.{Beside}
use Rattle.pairing.specs.Pairs.{next_pair_of}
use Rattle.pairing.proofs.tabulating.tabulate.Given as goal

-- the row of the pair x
abbrev pub row : List ℕ → List ℕ → Beside → ℕ → List ℕ
row b c t x = tab t.letters (next_pair_of b c t x)

abbrev pub invariant-loop-x : goal.invariant-loop-x
invariant-loop-x l = RowFilling l.count (row l.first l.second l.t) l.initial.out l.out l.at l.x
