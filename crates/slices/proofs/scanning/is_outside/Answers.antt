-- `slices::scanning::is_outside` meets its contract. Assumes nothing.
use borrow.Author.Tests.{lt-ltb, le-ltb}
use Rattle.slices.proofs.scanning.is_outside.Goals as goal

pub returns-then-c-low : goal.returns-then-c-low
returns-then-c-low c = rw (lt-ltb _ _ c.if-c-low.true)

pub returns-else-c-low : goal.returns-else-c-low
returns-else-c-low c = rw (le-ltb _ _ c.if-c-low.false)
