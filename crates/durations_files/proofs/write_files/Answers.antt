-- `durations_files::write_files` meets its contract. Assumes nothing.
use Rattle.slices.proofs.Refusals.{handed}
use Rattle.durations_files.proofs.Decisions.{length-refused, length-good}
use Rattle.durations_files.proofs.write_files.Goals as goal

pub returns-in_err-check_lengths : goal.returns-in_err-check_lengths
returns-in_err-check_lengths c = rw (handed c.from_residual.ensures) (length-refused c.args.text.now c.args.show.now c.check_lengths.ensures c.in_err-check_lengths.was)

pub returns : goal.returns
returns c =
    length-good c.args.text.now c.args.show.now c.check_lengths.ensures c.in_ok-check_lengths.was c.write_texts.ensures
