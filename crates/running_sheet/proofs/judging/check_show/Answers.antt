-- `running_sheet::judging::check_show` meets its contract. Assumes nothing.
use Rattle.slices.specs.Refusals.{fault_in}
use mathlib.Core.Path.{ap, sym, ◌∙◌}
use Rattle.slices.proofs.Refusals.{handed, passed, failed}
use Rattle.running_sheet.specs.Writing.{input_fault}
use Rattle.running_sheet.proofs.judging.check_show.Goals as goal

pub returns-in_err-check_lasso : goal.returns-in_err-check_lasso
unfolding input_fault
returns-in_err-check_lasso c = rw (handed c.from_residual.ensures) (sym (failed _ (sym c.check_lasso.ensures ∙ ap fault_in c.in_err-check_lasso.was)))

pub returns : goal.returns
unfolding input_fault
returns c =
    c.check_cells.ensures ∙ sym (passed _ (sym c.check_lasso.ensures ∙ ap fault_in c.in_ok-check_lasso.was))
