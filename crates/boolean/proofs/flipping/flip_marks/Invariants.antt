-- The loops of `boolean::flipping::flip_marks`.
use lib.ListN.{length}
use Rattle.slices.proofs.Filling.{Filling}
use Rattle.boolean.specs.Pieces.{flipped_mark}
use Rattle.boolean.proofs.flipping.flip_marks.Given as goal

abbrev pub invariant-loop-i : goal.invariant-loop-i
invariant-loop-i l = Filling (length l.marks) (flipped_mark l.marks) l.initial.out l.out l.i
