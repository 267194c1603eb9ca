-- The answers of `c_walk::stepping::cursor_numbers`. Assumes nothing.
use Rattle.std.proofs.Common.{rules}
use Rattle.slices.specs.Tables.{tab}
use Rattle.c_walk.proofs.stepping.cursor_numbers.Goals as goal

pub returns : goal.returns
unfolding tab
returns c = search rules
