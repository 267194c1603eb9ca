-- The loops of `blocks::filling::gather`.
use Prim.Native.Nat.{◌+◌, ◌*◌}
use lib.ListN.{get_or}
use Rattle.slices.proofs.Filling.{Filling}
use Rattle.blocks.proofs.filling.gather.Given as goal

abbrev pub invariant-loop-i : goal.invariant-loop-i
invariant-loop-i l = Filling l.count (λ j. get_or l.values (l.at + j * l.stride) 0) l.initial.cell-items l.cell-items l.i
