-- `c_text::reading::fdfa_number_read` meets its contract. Assumes nothing.
use Rattle.std.specs.Prelude.{Result}
use Rattle.slices.specs.declared.Refusal.{Refusal}
use mathlib.Core.Path.{ap, ◌∙◌}
use Rattle.numbers.specs.declared.Number.{Number}
use Rattle.answers.specs.Layout.{numbers_of, padded}
use Rattle.answers.proofs.Telling.{told-short, told-long}
use Rattle.c_text.specs.Numbers.{read_numbers}
use Rattle.c_text.proofs.reading.fdfa_number_read.Goals as goal

pub returns-then-answer-lt-ANSWER : goal.returns-then-answer-lt-ANSWER
returns-then-answer-lt-ANSWER c = told-short 3 _ _ c.if-answer-lt-ANSWER.true

pub returns : goal.returns
returns c =
    told-long 3 _ _ c.if-answer-lt-ANSWER.false
    (c.number_numbers.ensures ∙ ap (λ (x : Result Number Refusal). padded 3 (numbers_of read_numbers x)) c.read_number-number.ensures) c.tell.ensures
