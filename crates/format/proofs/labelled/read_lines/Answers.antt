-- `format::labelled::read_lines` meets its contract. Assumes nothing.
use Rattle.slices.proofs.Refusals.{handed}
use mathlib.Core.Path.{refl, ap, sym, ◌∙◌}
use native.Mathlib.Omega.{arith}
use Rattle.numbers.proofs.Stores.{stored-length, stored-as}
use Rattle.format.specs.Steps.{cell_says}
use Rattle.format.proofs.Lined.{lined-none, line-takes, lined-more, lined-all, lined-refused}
use Rattle.format.proofs.labelled.read_lines.Goals as goal

pub loop-more-init : goal.loop-more-init
loop-more-init c = (c.stands-more.ensures, lined-none _ _ _ _ _ _ c.requires.0)

pub returns-in_err-number : goal.returns-in_err-number
returns-in_err-number c = rw (handed c.from_residual.ensures)
    (let i = c.loop-more in
    lined-refused i.invariant.1 (sym i.invariant.0 ∙ c.loop-more-test.true) (sym c.read_labelled.ensures ∙ ap cell_says c.in_err-number.was) refl (stored-length i.invariant.1.stored))

pub overflow_cast-number : goal.overflow_cast-number
overflow_cast-number c =
    let i = c.loop-more in
    let t = line-takes i.invariant.1 (sym c.read_labelled.ensures ∙ ap cell_says c.in_ok-number.was) in
    omega (arith, t.high, c.requires.2)

pub loop-more-preserved : goal.loop-more-preserved
loop-more-preserved c = (
  c.stands-more-in-loop-more.ensures,
  lined-more c.loop-more.invariant.1 c.requires.1 (sym c.loop-more.invariant.0 ∙ c.loop-more-test.true) (sym c.read_labelled.ensures ∙ ap cell_says c.in_ok-number.was)
      (stored-as refl c.put-count.ensures),
)

pub returns : goal.returns
returns c = let i = c.loop-more in lined-all i.invariant.1 (sym i.invariant.0 ∙ c.loop-more-test.false) refl
