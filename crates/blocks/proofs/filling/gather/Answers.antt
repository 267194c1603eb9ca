-- `blocks::filling::gather` meets its contract. Assumes nothing.
use mathlib.Core.Path.{refl}
use Prim.Native.Nat.{ℕ, ◌+◌, ◌*◌, ◌-◌}
use native.Mathlib.Omega.{arith}
use lib.ListN.{get_or}
use Rattle.slices.proofs.Filling.{filling-none, filling-more}
use Rattle.slices.proofs.Tables.{length-tab}
use Rattle.blocks.proofs.Lent.{part-long, part-filled}
use Rattle.blocks.proofs.filling.gather.Goals as goal

pub loop-i-init : goal.loop-i-init
loop-i-init c =
    filling-none _ _ _ (omega (arith, part-long c.args.out.now c.args.to {n = c.args.count} {k = c.args.to + c.args.count - c.args.to} (omega arith) c.requires.at_bound.3))

pub loop-i-preserved : goal.loop-i-preserved
loop-i-preserved c =
    filling-more _ c.loop-i.invariant
    (omega (arith, c.loop-i-test.true, c.loop-i.invariant.same, part-long c.args.out.now c.args.to {n = c.args.count} {k = c.args.to + c.args.count - c.args.to} (omega arith) c.requires.at_bound.3))
    refl

pub returns : goal.returns
returns c =
    let f : ℕ → ℕ = λ j. get_or c.args.values.now (c.args.at + j * c.args.stride) 0 in
    record {
      cells = part-filled c.args.out.now c.args.to {n = c.args.count} (omega arith) c.requires.at_bound.3 f c.loop-i.invariant
          (omega (arith, c.loop-i-test.false, part-long c.args.out.now c.args.to {n = c.args.count} {k = c.args.to + c.args.count - c.args.to} (omega arith) c.requires.at_bound.3));
      next = omega (arith, length-tab c.args.count f);
    }
