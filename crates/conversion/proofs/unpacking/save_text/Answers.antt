-- `conversion::unpacking::save_text` is safe: what was filled lies within the slice. Assumes nothing.
use Rattle.conversion.proofs.Answers.{fills-within}
use Rattle.conversion.proofs.unpacking.save_text.Goals as goal

pub save_filled-requires : goal.save_filled-requires
save_filled-requires c = fills-within c.unpack-answer.ensures
