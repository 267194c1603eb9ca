-- The loops of `boolean::writing::write_sizes`.
use Rattle.slices.proofs.Filling.{Filling}
use Rattle.boolean.specs.Pieces.{pair_size}
use Rattle.boolean.proofs.writing.write_sizes.Given as goal

abbrev pub invariant-loop-x : goal.invariant-loop-x
invariant-loop-x l = Filling l.z.pairs (pair_size l.first l.second) l.initial.cell-items l.cell-items l.x
