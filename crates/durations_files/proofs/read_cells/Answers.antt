-- `durations_files::read_cells` meets its contract. Assumes nothing.
use Rattle.slices.proofs.Refusals.{handed}
use native.Mathlib.Omega.{arith}
use Rattle.durations_files.proofs.Cells.{cells-refused, cells-filled}
use Rattle.durations_files.proofs.read_cells.Goals as goal

pub returns-in_err-read : goal.returns-in_err-read
returns-in_err-read c = rw (handed c.from_residual.ensures) (cells-refused c.args.text.now (omega arith) c.requires c.read.ensures c.in_err-read.was)

pub returns : goal.returns
returns c =
    cells-filled c.args.text.now (omega arith) c.requires c.read.ensures c.in_ok-read.was c.from.ensures c.timed.ensures
