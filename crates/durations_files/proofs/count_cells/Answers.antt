-- `durations_files::count_cells` meets its contract. Assumes nothing.
use mathlib.Core.Path.{◌≡◌}
use Rattle.std.proofs.Common.{rules}
use Rattle.std.specs.Result.{result_unwrap_or}
use Rattle.durations_files.proofs.Cells.{count-is}
use Rattle.durations_files.proofs.count_cells.Goals as goal

pub returns : goal.returns
returns c =
    let is : c.unwrap_or.result ≡ result_unwrap_or c.read_cells.result 0 = search rules in
    count-is c.args.text.now c.read_cells.ensures is
