-- `buchi_import::single::rising` meets its contract. Assumes nothing.
use borrow.Author.Tests.{lt-ltb, le-ltb}
use Rattle.buchi_import.proofs.single.rising.Goals as goal

pub returns-then-v-low : goal.returns-then-v-low
returns-then-v-low c = rw (lt-ltb _ _ c.if-v-low.true)

pub returns : goal.returns
returns c = rw (le-ltb _ _ c.if-v-low.false)
