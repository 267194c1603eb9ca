-- `running_sheet::judging::check_cells` meets its contract. Assumes nothing.
use Rattle.slices.specs.Refusals.{fault_in}
use mathlib.Core.Path.{ap, sym, ◌∙◌}
use Rattle.slices.proofs.Refusals.{handed, passed, failed}
use Rattle.running_sheet.proofs.Faults.{all-cells}
use Rattle.running_sheet.proofs.judging.check_cells.Goals as goal

pub returns-in_err-check_seconds : goal.returns-in_err-check_seconds
returns-in_err-check_seconds c = rw (handed c.from_residual.ensures)
    (sym (failed _ (sym (all-cells c.args.seconds.now) ∙ (sym c.check_seconds.ensures ∙ ap fault_in c.in_err-check_seconds.was))))

pub returns : goal.returns
returns c =
    c.check_lengths.ensures
    ∙ sym (passed _ (sym (all-cells c.args.seconds.now) ∙ (sym c.check_seconds.ensures ∙ ap fault_in c.in_ok-check_seconds.was)))
