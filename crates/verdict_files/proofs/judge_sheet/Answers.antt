-- `verdict_files::judge_sheet` meets its contract. Assumes nothing.
use mathlib.Core.Path.{sym}
use lib.Seq.{length-take-le}
use Rattle.slices.specs.declared.Part.TheVariants.{First}
use Rattle.sheet_forms.proofs.Taken.{was-filled-with, packed_as}
use Rattle.verdict_files.specs.Judged.{sheet_of}
use Rattle.verdict_files.proofs.Decisions.{sheet-read}
use Rattle.verdict_files.proofs.judge_sheet.Goals as goal

pub slice_bounds-bytes-end : goal.slice_bounds-bytes-end
slice_bounds-bytes-end c = (was-filled-with _ c.pack.ensures c.in_ok-n.was).0

pub slice_bounds-judge-end : goal.slice_bounds-judge-end
slice_bounds-judge-end c = sym (length-take-le _ _ (was-filled-with _ c.pack.ensures c.in_ok-n.was).0)

pub returns : goal.returns
returns c =
    let packed = packed_as First c.args.sheet.now c.form_in.ensures c.pack.ensures in
    sheet-read (sheet_of c.args.any c.args.sheet.now) c.args.show.now (was-filled-with _ packed c.in_ok-n.was).1 c.judge.ensures
