-- The answers of `boolean::flipping::flip_marks`. Assumes nothing.
use native.Mathlib.Omega.{arith}
use Rattle.slices.proofs.Filling.{filling-none, filling-more}
use Rattle.boolean.proofs.flipping.flip_marks.Goals as goal

pub loop-i-init : goal.loop-i-init
loop-i-init c = filling-none _ _ _ c.requires

pub loop-i-preserved : goal.loop-i-preserved
loop-i-preserved c = filling-more _ c.loop-i.invariant (omega arith) c.flipped.ensures
