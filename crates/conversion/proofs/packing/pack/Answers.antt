-- `conversion::packing::pack` meets its contract. Assumes nothing.
use Rattle.slices.proofs.Refusals.{handed}
use mathlib.Core.Path.{refl, sym}
use native.Mathlib.Omega.{arith}
use lib.Seq.{length-take-le}
use Rattle.notation.proofs.Taken.{first_byte, cells-front}
use Rattle.conversion.proofs.Answers.{packs-refused, packs-filled}
use Rattle.conversion.proofs.packing.pack.Goals as goal

pub bounds-sheet-0 : goal.bounds-sheet-0
bounds-sheet-0 c = first_byte c.args.text.now c.read.ensures c.in_ok-read.was

-- the cells that have seconds
pub slice_bounds-cells-end : goal.slice_bounds-cells-end
slice_bounds-cells-end c = (cells-front c.args.text.now c.read.ensures c.in_ok-read.was c.from.ensures c.timed-m.ensures).0

pub slice_bounds-half_bytes-end : goal.slice_bounds-half_bytes-end
slice_bounds-half_bytes-end c =
    sym (length-take-le _ _ (cells-front c.args.text.now c.read.ensures c.in_ok-read.was c.from.ensures c.timed-m.ensures).0)

pub half_bytes-requires : goal.half_bytes-requires
half_bytes-requires c =
    let front = cells-front c.args.text.now c.read.ensures c.in_ok-read.was c.from.ensures c.timed-m.ensures in
    omega (arith, length-take-le _ _ front.0, front.0, c.requires)

pub overflow_mul-result : goal.overflow_mul-result
overflow_mul-result c =
    omega (arith, (cells-front c.args.text.now c.read.ensures c.in_ok-read.was c.from.ensures c.timed-m.ensures).0)

pub returns-in_err-read : goal.returns-in_err-read
returns-in_err-read c = rw (handed c.from_residual.ensures) (packs-refused _ c.read.ensures refl c.in_err-read.was)

pub returns : goal.returns
returns c =
    packs-filled
    c.args.text.now
    c.read.ensures
    refl
    c.in_ok-read.was
    c.from.ensures
    c.timed-m.ensures
    c.half_bytes.ensures
