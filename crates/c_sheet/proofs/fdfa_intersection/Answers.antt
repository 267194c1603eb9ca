-- `c_sheet::fdfa_intersection` meets its contract. Assumes nothing.
use Rattle.answers.proofs.Telling.{fill-short, fill-long}
use Rattle.c_sheet.proofs.fdfa_intersection.Goals as goal

pub returns-then-answer-lt-FILL : goal.returns-then-answer-lt-FILL
returns-then-answer-lt-FILL c = fill-short _ _ _ _ c.if-answer-lt-FILL.true

pub returns : goal.returns
returns c =
    fill-long _ _ _ _ c.if-answer-lt-FILL.false c.intersection-filled.ensures c.fill_numbers-numbers.ensures c.tell.ensures
