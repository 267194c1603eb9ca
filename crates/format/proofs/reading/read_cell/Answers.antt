-- `format::reading::read_cell` meets its contract. Assumes nothing.
use Rattle.slices.proofs.Refusals.{handed}
use Rattle.std.specs.Prelude.{Err}
use mathlib.Core.Path.{ap, sym, ◌∙◌}
use Rattle.format.proofs.Steps.{cell-refused, cell-outside, cell-inside}
use Rattle.format.proofs.reading.read_cell.Goals as goal

pub returns-then-is_outside : goal.returns-then-is_outside
returns-then-is_outside c =
    ap Err c.refuse.ensures ∙ sym (cell-outside c.args.part c.args.text.now c.args.column c.args.end c.args.at (sym c.number_at.ensures ∙ c.in_ok-number.was) (sym c.is_outside.ensures ∙ c.if-is_outside.true))

pub returns-in_err-number : goal.returns-in_err-number
returns-in_err-number c = rw (handed c.from_residual.ensures)
    (sym (cell-refused c.args.part c.args.text.now c.args.column c.args.end c.args.at (sym c.number_at.ensures ∙ c.in_err-number.was)))

pub returns : goal.returns
returns c =
    c.closed.ensures ∙ sym (cell-inside c.args.part c.args.text.now c.args.column c.args.end c.args.at (sym c.number_at.ensures ∙ c.in_ok-number.was) (sym c.is_outside.ensures ∙ c.if-is_outside.false))
