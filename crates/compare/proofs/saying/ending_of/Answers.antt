-- `compare::saying::ending_of` meets its contract. Assumes nothing.
use Rattle.compare.proofs.Spoken.{ends-line, goes_on}
use Rattle.compare.proofs.saying.ending_of.Goals as goal

pub returns-then-i-m : goal.returns-then-i-m
returns-then-i-m c = ends-line _ _ c.if-i-m.true

pub returns-else-i-m : goal.returns-else-i-m
returns-else-i-m c = goes_on _ _ c.if-i-m.false
