-- `c_show::reading::fdfa_show_read` meets its contract. Assumes nothing.
use Rattle.c_show.proofs.TextsRead.{lasso-short, lasso-long}
use Rattle.c_show.proofs.reading.fdfa_show_read.Goals as goal

pub returns-then-answer-lt-ANSWER : goal.returns-then-answer-lt-ANSWER
returns-then-answer-lt-ANSWER c = lasso-short _ _ _ _ c.if-answer-lt-ANSWER.true

pub returns : goal.returns
returns c =
    lasso-long _ _ _ _ c.if-answer-lt-ANSWER.false c.read-lengths.ensures c.lasso_numbers-told.ensures c.tell.ensures
