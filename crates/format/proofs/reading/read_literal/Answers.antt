-- `format::reading::read_literal` meets its contract. Assumes nothing.
use Rattle.slices.proofs.Refusals.{handed}
use mathlib.Core.Path.{sym, ◌∙◌}
use native.Mathlib.Omega.{arith}
use lib.ListN.{get_or}
use Rattle.format.specs.Format.{done, byte}
use Rattle.format.proofs.Repeating.{each_none, literal-next, literal-refused}
use Rattle.format.proofs.reading.read_literal.Goals as goal

pub loop-c-init : goal.loop-c-init
loop-c-init c = each_none c.args.part c.args.text.now (λ j. byte (get_or c.args.due.now j 0) done) c.args.at

pub returns-in_err-p : goal.returns-in_err-p
returns-in_err-p c = rw (handed c.from_residual.ensures)
    (let i = c.loop-c in
    sym (literal-refused c.args.part c.args.text.now c.args.due.now c.args.at i.p i.c-index i.invariant (omega arith) (sym c.byte.ensures ∙ c.in_err-p.was)))

pub loop-c-preserved : goal.loop-c-preserved
loop-c-preserved c =
    let i = c.loop-c in
    literal-next c.args.part c.args.text.now c.args.due.now c.args.at i.p i.c-index i.invariant (sym c.byte.ensures ∙ c.in_ok-p.was)
