-- `blocks::seconds::timed` meets its contract. Assumes nothing.
use borrow.Author.Tests.{eq-eqb, ne_eqb}
use Rattle.blocks.specs.Text.{timed}
use Rattle.blocks.proofs.seconds.timed.Goals as goal

pub returns-then-level-eq4 : goal.returns-then-level-eq4
unfolding timed
returns-then-level-eq4 c = rw (eq-eqb _ 4 c.if-level-eq4.true)

pub returns-else-level-eq4 : goal.returns-else-level-eq4
unfolding timed
returns-else-level-eq4 c = rw (ne_eqb _ 4 c.if-level-eq4.false)
