-- `running_sheet::writing::write` meets its contract. Assumes nothing.
use Rattle.slices.specs.Refusals.{fault_in}
use mathlib.Core.Path.{◌≡◌, ap, sym, ◌∙◌}
use Rattle.slices.specs.Refusals.{sound}
use Rattle.slices.proofs.Refusals.{handed, passed, failed}
use Rattle.slices.proofs.Filling.{fill-refused, fills-as}
use Rattle.running_sheet.specs.Writing.{input_fault}
use Rattle.running_sheet.proofs.Faults.{sound-printable, measurable}
use Rattle.running_sheet.proofs.writing.write.Goals as goal

pub fill-requires : goal.fill-requires
fill-requires c =
    let known : input_fault c.args.prefix.now c.args.period.now c.args.seconds.now ≡ sound = sym c.check_show.ensures ∙ ap fault_in c.in_ok-check_show.was in
    let u = c.args.prefix.now in
    let v = c.args.period.now in
    let w = c.args.seconds.now in
    measurable u v w (sound-printable u v w known)

pub returns-in_err-check_show : goal.returns-in_err-check_show
returns-in_err-check_show c = rw (handed c.from_residual.ensures) (fill-refused _ _ (failed _ (sym c.check_show.ensures ∙ ap fault_in c.in_err-check_show.was)))

pub returns : goal.returns
returns c =
    let known : input_fault c.args.prefix.now c.args.period.now c.args.seconds.now ≡ sound = sym c.check_show.ensures ∙ ap fault_in c.in_ok-check_show.was in
    fills-as (sym (passed _ known)) c.fill.ensures
