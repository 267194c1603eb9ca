-- `slices::timed::check_seconds` meets its contract: that there are enough, then each of them. Assumes nothing.
use mathlib.Core.Path.{ap, sym, ◌∙◌}
use Rattle.slices.specs.Refusals.{fault}
use Rattle.slices.proofs.Timings.{few-seconds, bad-seconds, good-seconds}
use Rattle.slices.proofs.timed.check_seconds.Goals as goal

pub returns-then-seconds-count : goal.returns-then-seconds-count
returns-then-seconds-count c = ap fault c.refuse.ensures ∙ sym (few-seconds _ _ c.if-seconds-count.true)

pub returns-then-i-count : goal.returns-then-i-count
returns-then-i-count c =
    ap fault c.refuse-then-i-count.ensures ∙ sym (bad-seconds _ _ c.if-seconds-count.false c.first_untimed-i.ensures c.if-i-count.true)

pub returns : goal.returns
returns c = sym (good-seconds _ _ c.if-seconds-count.false c.first_untimed-i.ensures c.if-i-count.false)
