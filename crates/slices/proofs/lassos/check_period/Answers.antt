-- `slices::lassos::check_period` meets its contract: that there is one, then its letters. Assumes nothing.
use mathlib.Core.Path.{ap, sym, ◌∙◌}
use Rattle.slices.specs.Refusals.{fault}
use Rattle.slices.proofs.LassoLetters.{no-period, bad-period, good-period}
use Rattle.slices.proofs.lassos.check_period.Goals as goal

pub returns-then-period-eq0 : goal.returns-then-period-eq0
returns-then-period-eq0 c = ap fault c.refuse.ensures ∙ sym (no-period _ _ c.if-period-eq0.true)

pub returns-then-j-period : goal.returns-then-j-period
returns-then-j-period c =
    ap fault c.refuse-then-j-period.ensures ∙ sym (bad-period _ _ c.if-period-eq0.false c.first_unknown-j.ensures c.if-j-period.true)

pub returns : goal.returns
returns c = sym (good-period _ _ c.if-period-eq0.false c.first_unknown-j.ensures c.if-j-period.false)
