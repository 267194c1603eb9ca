-- `pairing::tabulating::write_row` meets its contract. Assumes nothing.
use native.Mathlib.Omega.{arith}
use Rattle.packed.proofs.Front.{front-none, front-more, front-all}
use Rattle.pairing.proofs.tabulating.write_row.Goals as goal

pub loop-a-init : goal.loop-a-init
loop-a-init c = front-none _ _ c.args.out.now c.requires.1

pub loop-a-preserved : goal.loop-a-preserved
loop-a-preserved c = front-more c.args.out.now _ c.loop-a.invariant (omega (arith, c.loop-a-test.true)) c.next_pair.ensures

pub returns : goal.returns
returns c = front-all c.args.out.now c.loop-a.invariant (omega arith)
