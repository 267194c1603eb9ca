-- `search::place_of` meets its contract. Assumes nothing.
use borrow.Author.Tests.{eq-eqb, ne_eqb}
use Rattle.search.specs.Queue.{place_at}
use Rattle.search.proofs.place_of.Goals as goal

pub returns-then-code-eq0 : goal.returns-then-code-eq0
unfolding place_at
returns-then-code-eq0 c = rw (eq-eqb _ 0 c.if-code-eq0.true)

pub returns-else-code-eq0 : goal.returns-else-code-eq0
unfolding place_at
returns-else-code-eq0 c = rw (ne_eqb _ 0 c.if-code-eq0.false)
