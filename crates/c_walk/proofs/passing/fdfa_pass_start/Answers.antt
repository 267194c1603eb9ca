-- `c_walk::passing::fdfa_pass_start` meets its contract. Assumes nothing.
use mathlib.Core.Path.{ap, ◌∙◌}
use mathlib.Core.List.{◌∷◌}
use Rattle.fdfa.specs.Pass.{Pass}
use Rattle.answers.specs.Layout.{padded}
use Rattle.answers.proofs.Telling.{told-short, told-long}
use Rattle.c_walk.specs.Passes.{pass_numbers}
use Rattle.c_walk.proofs.passing.fdfa_pass_start.Goals as goal

pub returns-then-answer-lt-PASS : goal.returns-then-answer-lt-PASS
returns-then-answer-lt-PASS c = told-short 4 _ _ c.if-answer-lt-PASS.true

pub returns : goal.returns
returns c =
    told-long 4 _ _ c.if-answer-lt-PASS.false
    (c.held_numbers-numbers.ensures ∙ ap (λ (p : Pass). padded 4 (0 ∷ pass_numbers p)) c.start-held.ensures) c.tell.ensures
