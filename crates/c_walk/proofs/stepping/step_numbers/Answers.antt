-- The answers of `c_walk::stepping::step_numbers`. Assumes nothing.
use Rattle.std.proofs.Common.{rules}
use Rattle.slices.specs.Tables.{tab}
use Rattle.c_walk.proofs.stepping.step_numbers.Goals as goal

pub returns-in-Ok : goal.returns-in-Ok
unfolding tab
returns-in-Ok c = rw c.in-Ok.is (search rules)
