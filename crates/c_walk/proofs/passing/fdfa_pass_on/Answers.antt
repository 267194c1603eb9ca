-- `c_walk::passing::fdfa_pass_on` meets its contract. Assumes nothing.
use Rattle.std.specs.Prelude.{Result}
use Rattle.slices.specs.declared.Refusal.{Refusal}
use mathlib.Core.Path.{ap, ◌∙◌}
use Rattle.fdfa.specs.Pass.{Pass}
use Rattle.prefix_pass.specs.Parts.{passed_of}
use Rattle.answers.specs.Layout.{numbers_of, padded}
use Rattle.answers.proofs.Telling.{told-short, told-long}
use Rattle.c_walk.specs.Passes.{pass_numbers}
use Rattle.c_walk.proofs.passing.fdfa_pass_on.Goals as goal

pub returns-then-answer-lt-PASS : goal.returns-then-answer-lt-PASS
returns-then-answer-lt-PASS c = told-short 4 _ _ c.if-answer-lt-PASS.true

pub returns : goal.returns
returns c =
    told-long 4 _ _ c.if-answer-lt-PASS.false
    (c.passed_numbers-numbers.ensures
    ∙ ap (λ (x : Result Pass Refusal). padded 4 (numbers_of pass_numbers x))
    (c.go_on-passed.ensures ∙ ap (λ (p : Pass). passed_of c.args.sheet.now p c.args.piece.now) c.held_of-held.ensures))
    c.tell.ensures
