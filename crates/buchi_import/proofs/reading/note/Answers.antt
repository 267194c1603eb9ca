-- `buchi_import::reading::note` meets its contract. Assumes nothing.
use Rattle.buchi_import.proofs.Noting.{noted_one, noted-past}
use Rattle.buchi_import.proofs.reading.note.Goals as goal

pub returns-then-p-finals : goal.returns-then-p-finals
returns-then-p-finals c = noted_one _ _ c.if-p-finals.true

pub returns-else-p-finals : goal.returns-else-p-finals
returns-else-p-finals c = noted-past _ _ c.if-p-finals.false
