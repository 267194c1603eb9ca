-- `c_walk::stepping::fdfa_cursor_start` meets its contract. Assumes nothing.
use mathlib.Core.Path.{ap, ◌∙◌}
use mathlib.Core.List.{◌∷◌}
use Rattle.cursor.specs.declared.Cursor.{Cursor}
use Rattle.answers.specs.Layout.{padded}
use Rattle.answers.proofs.Telling.{told-short, told-long}
use Rattle.c_walk.specs.Cursors.{cursor_numbers_of}
use Rattle.c_walk.proofs.stepping.fdfa_cursor_start.Goals as goal

pub returns-then-answer-lt-START : goal.returns-then-answer-lt-START
returns-then-answer-lt-START c = told-short 3 _ _ c.if-answer-lt-START.true

pub returns : goal.returns
returns c =
    told-long 3 _ _ c.if-answer-lt-START.false
    (c.cursor_numbers-numbers.ensures ∙ ap (λ (d : Cursor). padded 3 (0 ∷ cursor_numbers_of d)) c.start-c.ensures) c.tell.ensures
