-- `compare_files::decide` meets its contract. Assumes nothing.
use Rattle.slices.proofs.Refusals.{handed}
use Rattle.compare_files.proofs.Decisions.{length-refused, length-good}
use Rattle.compare_files.proofs.decide.Goals as goal

pub returns-in_err-check_lengths : goal.returns-in_err-check_lengths
returns-in_err-check_lengths c = rw (handed c.from_residual.ensures)
    (length-refused c.args.any c.args.first.now c.args.second.now c.check_lengths.ensures _ _ c.in_err-check_lengths.was)

pub returns : goal.returns
returns c =
    length-good c.args.any c.args.first.now c.args.second.now c.check_lengths.ensures c.in_ok-check_lengths.was c.compare_first.ensures
