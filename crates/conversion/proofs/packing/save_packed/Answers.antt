-- `conversion::packing::save_packed` is safe: what was filled lies within the slices. Assumes nothing.
use mathlib.Core.Path.{sym}
use lib.Seq.{length-take-le}
use Rattle.conversion.proofs.Answers.{packs-within}
use Rattle.conversion.proofs.packing.save_packed.Goals as goal

pub slice_bounds-sheet-end : goal.slice_bounds-sheet-end
slice_bounds-sheet-end c = (packs-within c.pack.ensures c.in-Ok.is).0

pub slice_bounds-seconds-end : goal.slice_bounds-seconds-end
slice_bounds-seconds-end c = (packs-within c.pack.ensures c.in-Ok.is).1

pub slice_bounds-save_three-end : goal.slice_bounds-save_three-end
slice_bounds-save_three-end c = sym (length-take-le _ _ (packs-within c.pack.ensures c.in-Ok.is).1)
