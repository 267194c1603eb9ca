-- `slices::copying::copy` meets its contract. Assumes nothing.
use mathlib.Core.Path.{refl}
use native.Mathlib.Omega.{arith}
use Rattle.slices.proofs.Filling.{filling-none, filling-more, filling-copied}
use Rattle.slices.proofs.copying.copy.Goals as goal

pub loop-i-init : goal.loop-i-init
loop-i-init c = filling-none _ _ _ c.requires

pub loop-i-preserved : goal.loop-i-preserved
loop-i-preserved c = filling-more _ c.loop-i.invariant (omega arith) refl

pub returns : goal.returns
returns c = filling-copied _ c.loop-i.invariant (omega arith)
