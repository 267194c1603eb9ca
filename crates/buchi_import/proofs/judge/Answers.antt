-- `buchi_import::judge` meets its contract. Assumes nothing.
use Rattle.buchi_import.proofs.judge.Goals as goal

pub returns : goal.returns
returns c = c.read_text.ensures.says
