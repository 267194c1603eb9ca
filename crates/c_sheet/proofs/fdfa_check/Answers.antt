-- `c_sheet::fdfa_check` meets its contract. Assumes nothing.
use Rattle.std.specs.Prelude.{Result}
use Rattle.slices.specs.declared.Refusal.{Refusal}
use mathlib.Core.Path.{ap, ◌∙◌}
use Rattle.packed.specs.declared.Sizes.{Sizes}
use Rattle.answers.specs.Layout.{numbers_of, padded}
use Rattle.answers.proofs.Telling.{told-short, told-long}
use Rattle.c_sheet.specs.Numbers.{size_numbers}
use Rattle.c_sheet.proofs.fdfa_check.Goals as goal

pub returns-then-answer-lt-CHECK : goal.returns-then-answer-lt-CHECK
returns-then-answer-lt-CHECK c = told-short 4 _ _ c.if-answer-lt-CHECK.true

pub returns : goal.returns
returns c =
    told-long 4 _ _ c.if-answer-lt-CHECK.false
    (c.check_numbers-numbers.ensures ∙ ap (λ (x : Result Sizes Refusal). padded 4 (numbers_of size_numbers x)) c.check-sizes.ensures) c.tell.ensures
