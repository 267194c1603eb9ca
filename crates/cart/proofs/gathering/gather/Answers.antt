-- `cart::gathering::gather` meets its contract. Assumes nothing.
use native.Mathlib.Omega.{arith}
use Rattle.cart.proofs.Wordings.{sourced-none}
use Rattle.cart.proofs.gathering.gather.Goals as goal

pub loop-i-init : goal.loop-i-init
loop-i-init c =
    (omega arith, omega arith, c.start.ensures.1.0, omega (arith, c.start.ensures.1.0, c.start.ensures.1.1), omega arith, omega arith, sourced-none c.args.said.now c.start.ensures.0)

pub add_file-gathered-requires : goal.add_file-gathered-requires
add_file-gathered-requires c =
    (c.loop-i.invariant.0, c.loop-i.invariant.1, omega arith, c.loop-i.invariant.3, c.loop-i.invariant.4, c.loop-i.invariant.6)

pub loop-i-preserved : goal.loop-i-preserved
loop-i-preserved c =
    (omega arith, omega arith, omega (arith, c.add_file-gathered.ensures.0), c.add_file-gathered.ensures.1, c.add_file-gathered.ensures.2, omega arith, c.add_file-gathered.ensures.3)

pub returns : goal.returns
returns c = (omega arith, c.loop-i.invariant.3, c.loop-i.invariant.4, c.loop-i.invariant.6)
