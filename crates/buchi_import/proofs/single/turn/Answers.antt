-- `buchi_import::single::turn` meets its contract. Assumes nothing.
use borrow.Author.Tests.{eq-eqb, ne_eqb}
use Rattle.buchi_import.proofs.single.turn.Goals as goal

pub returns-then-due-limit : goal.returns-then-due-limit
returns-then-due-limit c = rw (ne_eqb _ _ c.if-due-limit.true)

pub returns-then-v-limit : goal.returns-then-v-limit
returns-then-v-limit c = rw (eq-eqb _ _ c.if-due-limit.false, ne_eqb _ _ c.if-v-limit.true)

pub returns : goal.returns
returns c = rw (eq-eqb _ _ c.if-due-limit.false, eq-eqb _ _ c.if-v-limit.false)
