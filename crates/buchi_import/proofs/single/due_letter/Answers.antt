-- `buchi_import::single::due_letter` meets its contract. Assumes nothing.
use borrow.Author.Tests.{eq-eqb, ne_eqb}
use Rattle.buchi_import.proofs.single.due_letter.Goals as goal

pub returns-then-c-m : goal.returns-then-c-m
returns-then-c-m c = rw (ne_eqb _ _ c.if-c-m.true)

pub returns-then-v-eq0 : goal.returns-then-v-eq0
returns-then-v-eq0 c = rw (eq-eqb _ _ c.if-c-m.false, eq-eqb _ _ c.if-v-eq0.true)

pub returns-else-v-eq0 : goal.returns-else-v-eq0
returns-else-v-eq0 c = rw (eq-eqb _ _ c.if-c-m.false, ne_eqb _ _ c.if-v-eq0.false)
