-- `compare_files::compare_second` meets its contract. Assumes nothing.
use Rattle.slices.proofs.Refusals.{handed}
use mathlib.Core.Path.{sym}
use lib.Seq.{length-take-le}
use Rattle.slices.specs.declared.Part.TheVariants.{Second}
use Rattle.compare_files.specs.Decided.{second_sheet}
use Rattle.sheet_forms.proofs.Taken.{was-refused-for, was-filled-with, packed_as}
use Rattle.compare_files.proofs.Decisions.{second-refused, second-read}
use Rattle.compare_files.proofs.compare_second.Goals as goal

pub slice_bounds-sheet-end : goal.slice_bounds-sheet-end
slice_bounds-sheet-end c = (was-filled-with _ c.pack.ensures c.in_ok-n.was).0

pub slice_bounds-compare_packed-end : goal.slice_bounds-compare_packed-end
slice_bounds-compare_packed-end c = sym (length-take-le _ _ (was-filled-with _ c.pack.ensures c.in_ok-n.was).0)

pub returns-in_err-n : goal.returns-in_err-n
returns-in_err-n c = rw (handed c.from_residual.ensures)
    (let packed = packed_as Second c.args.second.now c.form_in.ensures c.pack.ensures in
    second-refused c.args.first.now (second_sheet c.args.any c.args.second.now) _ _ (was-refused-for _ packed c.in_err-n.was))

pub returns : goal.returns
returns c =
    let packed = packed_as Second c.args.second.now c.form_in.ensures c.pack.ensures in
    second-read c.args.first.now (second_sheet c.args.any c.args.second.now) (was-filled-with _ packed c.in_ok-n.was).1 c.compare_packed.ensures
