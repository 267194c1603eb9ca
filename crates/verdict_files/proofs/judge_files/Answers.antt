-- `verdict_files::judge_files` meets its contract. Assumes nothing.
use Rattle.slices.proofs.Refusals.{handed}
use Rattle.verdict_files.proofs.Decisions.{length-refused, length-good}
use Rattle.verdict_files.proofs.judge_files.Goals as goal

pub returns-in_err-check_lengths : goal.returns-in_err-check_lengths
returns-in_err-check_lengths c =
    rw (handed c.from_residual.ensures)
    (length-refused c.args.any c.args.sheet.now c.args.show.now c.check_lengths.ensures c.in_err-check_lengths.was)

pub returns : goal.returns
returns c =
    length-good c.args.any c.args.sheet.now c.args.show.now c.check_lengths.ensures c.in_ok-check_lengths.was c.judge_sheet.ensures
