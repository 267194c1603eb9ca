-- `slices::lassos::check_lasso` meets its contract: the prefix, then the period. Assumes nothing.
use mathlib.Core.Path.{ap, sym, ◌∙◌}
use Rattle.slices.specs.Refusals.{fault}
use Rattle.slices.proofs.LassoLetters.{bad-prefix, good-prefix}
use Rattle.slices.proofs.lassos.check_lasso.Goals as goal

pub returns-then-i-prefix : goal.returns-then-i-prefix
returns-then-i-prefix c = ap fault c.refuse.ensures ∙ sym (bad-prefix _ _ _ c.first_unknown-i.ensures c.if-i-prefix.true)

pub returns : goal.returns
returns c = c.check_period.ensures ∙ sym (good-prefix _ _ _ c.first_unknown-i.ensures c.if-i-prefix.false)
