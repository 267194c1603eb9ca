-- `verdict::text::put_word` meets its contract. Assumes nothing.
use mathlib.Core.Path.{ap, sym}
use Rattle.numbers.proofs.Stores.{stored-as}
use Rattle.verdict.specs.Text.{word}
use Rattle.verdict.proofs.text.put_word.Goals as goal

pub returns-then-accepted : goal.returns-then-accepted
returns-then-accepted c = stored-as (ap word (sym c.if-accepted.true)) c.put_literal.ensures

pub returns : goal.returns
returns c = stored-as (ap word (sym c.if-accepted.false)) c.put_literal-2.ensures
