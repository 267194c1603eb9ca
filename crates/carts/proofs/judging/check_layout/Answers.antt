-- `carts::judging::check_layout` meets its contract. Assumes nothing.
use mathlib.Core.Path.{ap, sym, ◌∙◌}
use Rattle.slices.specs.Refusals.{fault}
use Rattle.carts.proofs.Layouts.{no_byte, bad-count, bad-length, good-layout}
use Rattle.carts.proofs.judging.check_layout.Goals as goal

pub returns-then-length-eq0 : goal.returns-then-length-eq0
returns-then-length-eq0 c = ap fault c.refuse.ensures ∙ sym (no_byte _ c.if-length-eq0.true)

pub returns-then-is_outside : goal.returns-then-is_outside
returns-then-is_outside c =
    ap fault c.refuse-then-is_outside.ensures ∙ sym (bad-count _ c.if-length-eq0.false c.from-count.ensures (sym c.is_outside.ensures ∙ c.if-is_outside.true))

pub returns-then-not-is_exact : goal.returns-then-not-is_exact
returns-then-not-is_exact c =
    ap fault c.refuse-then-not-is_exact.ensures
    ∙ sym (bad-length _ c.if-length-eq0.false c.from-count.ensures (sym c.is_outside.ensures ∙ c.if-is_outside.false) (sym c.is_exact.ensures ∙ c.if-not-is_exact.true))

pub returns : goal.returns
returns c =
    sym (good-layout _ c.if-length-eq0.false c.from-count.ensures (sym c.is_outside.ensures ∙ c.if-is_outside.false) (sym c.is_exact.ensures ∙ c.if-not-is_exact.false))
