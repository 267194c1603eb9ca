-- `compare_files::compare_first` meets its contract. Assumes nothing.
use Rattle.slices.proofs.Refusals.{handed}
use mathlib.Core.Path.{sym}
use lib.Seq.{length-take-le}
use Rattle.slices.specs.declared.Part.TheVariants.{First}
use Rattle.compare_files.specs.Decided.{first_sheet, second_sheet}
use Rattle.sheet_forms.proofs.Taken.{was-refused-for, was-filled-with, packed_as}
use Rattle.compare_files.proofs.Decisions.{first-refused, first_read}
use Rattle.compare_files.proofs.compare_first.Goals as goal

pub slice_bounds-sheet-end : goal.slice_bounds-sheet-end
slice_bounds-sheet-end c = (was-filled-with _ c.pack.ensures c.in_ok-n.was).0

pub slice_bounds-compare_second-end : goal.slice_bounds-compare_second-end
slice_bounds-compare_second-end c = sym (length-take-le _ _ (was-filled-with _ c.pack.ensures c.in_ok-n.was).0)

pub returns-in_err-n : goal.returns-in_err-n
returns-in_err-n c = rw (handed c.from_residual.ensures)
    (let packed = packed_as First c.args.first.now c.form_in.ensures c.pack.ensures in
    first-refused (first_sheet c.args.any c.args.first.now) (second_sheet c.args.any c.args.second.now) _ _ (was-refused-for _ packed c.in_err-n.was))

pub returns : goal.returns
returns c =
    let packed = packed_as First c.args.first.now c.form_in.ensures c.pack.ensures in
    first_read (first_sheet c.args.any c.args.first.now) (second_sheet c.args.any c.args.second.now) (was-filled-with _ packed c.in_ok-n.was).1 c.compare_second.ensures
