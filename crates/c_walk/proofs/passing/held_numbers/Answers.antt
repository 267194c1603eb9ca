-- The answers of `c_walk::passing::held_numbers`. Assumes nothing.
use Rattle.std.proofs.Common.{rules}
use Rattle.slices.specs.Tables.{tab}
use Rattle.c_walk.proofs.passing.held_numbers.Goals as goal

pub returns-in-Reached : goal.returns-in-Reached
unfolding tab
returns-in-Reached c = search rules

pub returns-in-Unknown : goal.returns-in-Unknown
unfolding tab
returns-in-Unknown c = search rules
