-- `c_walk::stepping::prefix_for` meets its contract. Assumes nothing.
use Rattle.c_walk.proofs.Naming.{all-letters, no-letters}
use Rattle.c_walk.proofs.stepping.prefix_for.Goals as goal

pub returns-then-part-eq-OPENING : goal.returns-then-part-eq-OPENING
returns-then-part-eq-OPENING c = all-letters _ _ c.if-part-eq-OPENING.true

pub returns : goal.returns
returns c = no-letters _ _ c.if-part-eq-OPENING.false
