-- The loops of `boolean::writing::write_marks`.
use Prim.Native.Nat.{◌*◌}
use Rattle.slices.proofs.Filling.{Filling}
use Rattle.boolean.specs.Pieces.{pair_mark}
use Rattle.boolean.proofs.writing.write_marks.Given as goal

abbrev pub invariant-loop-x : goal.invariant-loop-x
invariant-loop-x l = Filling (l.size * l.m.width) (pair_mark l.op l.first l.second l.m) l.initial.cell-items l.cell-items l.x
