-- `blocks::writing::put_nexts` meets its contract. Assumes nothing.
use Prim.Native.Nat.{◌+◌, ◌-◌}
use native.Mathlib.Omega.{arith}
use Rattle.slices.proofs.Filling.{filling-none, filling-more}
use Rattle.blocks.proofs.Lent.{part-long, part-filled}
use Rattle.blocks.proofs.writing.put_nexts.Invariants.{nexts}
use Rattle.blocks.proofs.writing.put_nexts.Goals as goal

pub loop-a-init : goal.loop-a-init
loop-a-init c =
    filling-none _ _ _ (omega (arith, part-long c.args.row.now c.args.head {n = c.args.s} {k = c.args.head + c.args.s - c.args.head} (omega arith) c.requires.3))

pub loop-a-preserved : goal.loop-a-preserved
loop-a-preserved c =
    filling-more _ c.loop-a.invariant
    (omega (arith, c.loop-a-test.true, c.loop-a.invariant.same, part-long c.args.row.now c.args.head {n = c.args.s} {k = c.args.head + c.args.s - c.args.head} (omega arith) c.requires.3))
    c.from.ensures

pub returns : goal.returns
returns c =
    part-filled c.args.row.now c.args.head {n = c.args.s} (omega arith) c.requires.3 (nexts c.args.sheet.now c.args.from) c.loop-a.invariant
    (omega (arith, c.loop-a-test.false, part-long c.args.row.now c.args.head {n = c.args.s} {k = c.args.head + c.args.s - c.args.head} (omega arith) c.requires.3))
