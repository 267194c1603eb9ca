-- The loops of `blocks::writing::put_nexts`.
use mathlib.Core.List.{List}
use Prim.Native.Nat.{ℕ, ◌+◌}
use lib.ListN.{get_or}
use Rattle.slices.proofs.Filling.{Filling}
use Rattle.blocks.proofs.writing.put_nexts.Given as goal

-- the next states from a place on
abbrev pub nexts : List ℕ → ℕ → ℕ → ℕ
nexts sheet from a = get_or sheet (from + a) 0

abbrev pub invariant-loop-a : goal.invariant-loop-a
invariant-loop-a l = Filling l.s (nexts l.sheet l.from) l.initial.cell-items l.cell-items l.a
