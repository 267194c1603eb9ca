-- `format::labelled::read_labelled` meets its contract. Assumes nothing.
use Rattle.slices.proofs.Refusals.{handed}
use mathlib.Core.Path.{sym, ◌∙◌}
use Rattle.format.specs.Rows.{cell}
use Rattle.format.specs.Lines.{labelled}
use Rattle.format.proofs.Fixed.{fixed-literal}
use Rattle.format.proofs.Following.{step-refused, step_given}
use Rattle.format.proofs.labelled.read_labelled.Goals as goal

pub returns-in_err-e : goal.returns-in_err-e
unfolding labelled
returns-in_err-e c = rw (handed c.from_residual.ensures)
    (sym (step-refused c.args.part c.args.text.now (fixed-literal c.args.word.now) (λ vs. cell c.args.column c.args.end) c.args.at c.read_literal.ensures c.in_err-e.was))

pub returns : goal.returns
unfolding labelled
returns c =
    c.read_cell.ensures ∙ sym (step_given c.args.part c.args.text.now (fixed-literal c.args.word.now) (λ vs. cell c.args.column c.args.end) c.args.at c.read_literal.ensures c.requires c.in_ok-e.was)
