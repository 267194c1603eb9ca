-- `c_text::reading::fdfa_sheet_read` meets its contract. Assumes nothing.
use Rattle.c_text.proofs.TextsRead.{sheet-short, sheet-long}
use Rattle.c_text.proofs.reading.fdfa_sheet_read.Goals as goal

pub returns-then-answer-lt-ANSWER : goal.returns-then-answer-lt-ANSWER
returns-then-answer-lt-ANSWER c = sheet-short _ _ _ _ c.if-answer-lt-ANSWER.true

pub returns : goal.returns
returns c =
    sheet-long _ _ _ _ c.if-answer-lt-ANSWER.false c.read-sheet.ensures c.sheet_numbers.ensures c.tell.ensures
