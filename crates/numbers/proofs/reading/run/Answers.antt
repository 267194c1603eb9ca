-- `numbers::reading::run` meets its contract. Assumes nothing.
use Rattle.numbers.specs.Numerals.{run_of}
use Rattle.numbers.proofs.Runs.{run_none}
use Rattle.numbers.proofs.reading.run.Goals as goal

pub returns-then-len-at : goal.returns-then-len-at
returns-then-len-at c = run_none _ _ c.if-len-at.true

pub returns : goal.returns
unfolding run_of
returns c = c.first_outside.ensures
