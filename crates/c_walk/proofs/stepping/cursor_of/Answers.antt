-- `c_walk::stepping::cursor_of` meets its contract. Assumes nothing.
use Rattle.c_walk.proofs.Naming.{in_period, in_prefix}
use Rattle.c_walk.proofs.stepping.cursor_of.Goals as goal

pub returns-then-part-eq-LOOP : goal.returns-then-part-eq-LOOP
returns-then-part-eq-LOOP c = in_period _ _ c.if-part-eq-LOOP.true

pub returns : goal.returns
returns c = in_prefix _ _ c.if-part-eq-LOOP.false
