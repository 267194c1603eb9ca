-- `c_walk::stepping::fdfa_cursor_rest` meets its contract. Assumes nothing.
use mathlib.Core.Path.{◌∙◌}
use mathlib.Core.List.{◌∷◌}
use Rattle.answers.specs.Layout.{padded}
use Rattle.answers.proofs.Telling.{told-short, told-long}
use Rattle.c_walk.specs.Cursors.{rest_numbers_of}
use Rattle.c_walk.proofs.stepping.fdfa_cursor_rest.Goals as goal

pub returns-then-answer-lt-REST : goal.returns-then-answer-lt-REST
returns-then-answer-lt-REST c = told-short 4 _ _ c.if-answer-lt-REST.true

pub returns : goal.returns
returns c =
    let v = c.args.period.now in
    told-long 4 _ _ c.if-answer-lt-REST.false
    (c.rest_numbers-numbers.ensures _ v c.rest_length-n.ensures
    ∙ (λ i. padded 4 (0 ∷ rest_numbers_of (c.cursor_of-c.ensures i) (c.prefix_for.ensures i) v))) c.tell.ensures
