-- The loops of `lasso_text::writing::put_letters`.
use Rattle.slices.specs.Tables.{rows}
use Rattle.numbers.specs.Storing.{Stored}
use Rattle.lasso_text.specs.Text.{letter_line}
use Rattle.lasso_text.proofs.writing.put_letters.Given as goal

abbrev pub invariant-loop-letter : goal.invariant-loop-letter
invariant-loop-letter l = Stored l.initial.out l.at (rows l.letter-index (letter_line l.name l.word)) l.out l.p
