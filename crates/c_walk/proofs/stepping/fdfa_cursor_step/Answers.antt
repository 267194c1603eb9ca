-- `c_walk::stepping::fdfa_cursor_step` meets its contract. Assumes nothing.
use mathlib.Core.Path.{ap, ◌∙◌}
use Rattle.cursor.specs.declared.Step.{Step}
use Rattle.cursor.specs.Walking.{stepped}
use Rattle.answers.specs.Layout.{numbers_of, padded}
use Rattle.answers.proofs.Telling.{told-short, told-long}
use Rattle.c_walk.specs.Cursors.{step_result, moved_numbers}
use Rattle.c_walk.proofs.stepping.fdfa_cursor_step.Goals as goal

pub returns-then-answer-lt-STEP : goal.returns-then-answer-lt-STEP
returns-then-answer-lt-STEP c = told-short 4 _ _ c.if-answer-lt-STEP.true

pub returns : goal.returns
returns c =
    told-long 4 _ _ c.if-answer-lt-STEP.false
    (c.step_numbers-numbers.ensures
    ∙ ap (λ (x : Step). padded 4 (numbers_of moved_numbers (step_result x)))
    (c.step-step.ensures ∙ (λ i. stepped (c.cursor_of-c.ensures i) (c.prefix_for.ensures i) c.args.period.now)))
    c.tell.ensures
