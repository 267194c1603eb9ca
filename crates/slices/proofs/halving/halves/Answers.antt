-- `slices::halving::halves` meets its contract. Assumes nothing.
use native.Mathlib.Omega.{arith}
use Rattle.slices.proofs.Halved.{paired-none, pair-within, paired-more, paired-all}
use Rattle.slices.proofs.halving.halves.Goals as goal

pub loop-i-init : goal.loop-i-init
loop-i-init c = paired-none c.requires (cc) (cc) (cc)

pub bounds-cells-i : goal.bounds-cells-i
bounds-cells-i c =
    let s = c.loop-i.invariant in
    let step = c.in-Some.ensures.steps in
    omega (arith, step.1, pair-within s _ _ step.0.1.0 step.0.1.1, s.filling.room, s.filling.same)

pub loop-i-preserved : goal.loop-i-preserved
loop-i-preserved c =
    let step = c.in-Some.ensures.steps in paired-more c.loop-i.invariant _ _ step.0.1.0 step.0.1.1 c.from_le_bytes.ensures step.1 step.2 step.0.0

pub returns : goal.returns
returns c = paired-all c.loop-i.invariant c.in-None.ensures.steps.0.1.0
