-- `running_sheet::judging::check_lengths` meets its contract. Assumes nothing.
use mathlib.Core.Path.{ap, sym, ◌∙◌}
use native.Mathlib.Omega.{arith}
use Rattle.slices.specs.Refusals.{fault}
use Rattle.running_sheet.proofs.Faults.{long-opening, long-loop, not-long}
use Rattle.running_sheet.proofs.judging.check_lengths.Goals as goal

pub returns-then-prefix-gt-MOST : goal.returns-then-prefix-gt-MOST
returns-then-prefix-gt-MOST c =
    ap fault c.refuse.ensures ∙ sym (long-opening c.args.prefix.now c.args.period.now c.if-prefix-gt-MOST.true)

pub returns-then-period-gt-MOST : goal.returns-then-period-gt-MOST
returns-then-period-gt-MOST c =
    ap fault c.refuse-then-period-gt-MOST.ensures
    ∙ sym (long-loop c.args.prefix.now c.args.period.now (omega (arith, c.if-prefix-gt-MOST.false)) c.if-period-gt-MOST.true)

pub returns : goal.returns
returns c =
    sym (not-long c.args.prefix.now c.args.period.now (omega (arith, c.if-prefix-gt-MOST.false)) (omega (arith, c.if-period-gt-MOST.false)))
