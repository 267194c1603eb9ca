-- The loops of `lasso_text::writing::measure`.
use mathlib.Core.Path.{◌≡◌}
use Prim.Native.Nat.{◌+◌}
use lib.ListN.{length}
use Rattle.slices.specs.Capped.{capped}
use Rattle.slices.specs.Tables.{rows}
use Rattle.lasso_text.specs.Text.{letter_line}
use Rattle.lasso_text.proofs.writing.measure.Given as goal

abbrev pub invariant-loop-letter : goal.invariant-loop-letter
invariant-loop-letter l = l.p ≡ capped (l.from + length (rows l.letter-index (letter_line l.name l.word)))
