-- The answers of `c_sheet::check_numbers`. Assumes nothing.
use Rattle.std.proofs.Common.{rules}
use Rattle.slices.specs.Tables.{tab}
use Rattle.c_sheet.proofs.check_numbers.Goals as goal

pub returns-in-Ok : goal.returns-in-Ok
unfolding tab
returns-in-Ok c = search rules
