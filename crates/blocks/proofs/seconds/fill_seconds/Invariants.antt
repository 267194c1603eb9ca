-- The loops of `blocks::seconds::fill_seconds`.
use Prim.Native.Nat.{◌+◌, ◌*◌}
use lib.ListN.{get_or}
use Rattle.slices.proofs.Filling.{Filling}
use Rattle.blocks.proofs.seconds.fill_seconds.Given as goal

abbrev pub invariant-loop-a : goal.invariant-loop-a
invariant-loop-a l = Filling l.m (λ i. get_or l.rows (i * 2 + 1) 0) l.initial.cell-items l.cell-items l.a
