-- `c_text::writing::fdfa_sheet_write` meets its contract. Assumes nothing.
use Rattle.answers.proofs.Telling.{fill-short, fill-long}
use Rattle.c_text.proofs.writing.fdfa_sheet_write.Goals as goal

pub returns-then-answer-lt-ANSWER : goal.returns-then-answer-lt-ANSWER
returns-then-answer-lt-ANSWER c = fill-short _ _ _ _ c.if-answer-lt-ANSWER.true

pub returns : goal.returns
returns c =
    fill-long _ _ _ _ c.if-answer-lt-ANSWER.false c.write-filled.ensures c.fill_numbers.ensures c.tell.ensures
