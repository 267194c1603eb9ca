-- The answers of `boolean::writing::write_sizes`. Assumes nothing.
use mathlib.Core.Path.{ap}
use native.Mathlib.Omega.{arith}
use lib.Seq.{length-take-le}
use Rattle.slices.proofs.Filling.{filling-more}
use Rattle.pairing.specs.declared.PairSizes.{PairSizes}
use Rattle.boolean.proofs.Cells.{lent_none, lent_all}
use Rattle.boolean.proofs.Joining.{size_few}
use Rattle.boolean.proofs.writing.write_sizes.Goals as goal

pub loop-x-init : goal.loop-x-init
loop-x-init c = lent_none _ _ _ c.requires.2

pub overflow_cast-cell : goal.overflow_cast-cell
overflow_cast-cell c = omega (
  arith,
  c.size_of.ensures,
  size_few c.requires.0 c.loop-x.x (omega (arith, length-take-le _ _ c.requires.2, ap (λ (z : PairSizes). z.pairs) c.requires.1)),
)

pub loop-x-preserved : goal.loop-x-preserved
loop-x-preserved c = filling-more _ c.loop-x.invariant (omega (arith, length-take-le _ _ c.requires.2)) c.size_of.ensures

pub returns : goal.returns
returns c = lent_all _ c.loop-x.invariant (omega (arith, length-take-le _ _ c.requires.2))
