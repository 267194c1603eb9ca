-- `wording::reasons::put_reason` meets its contract. Assumes nothing.
use mathlib.Core.Path.{ap, ◌∙◌}
use native.Mathlib.Omega.{arith}
use lib.ListN.{length}
use Rattle.console.proofs.Printed.{field-few}
use Rattle.wording.proofs.Sentences.{sentence-short}
use Rattle.wording.proofs.Worded.{reason-stored}
use Rattle.wording.proofs.reasons.put_reason.Goals as goal

pub put_field-numbered-requires : goal.put_field-numbered-requires
put_field-numbered-requires c = omega (arith, field-few)

pub put_literal-spaced-requires : goal.put_literal-spaced-requires
put_literal-spaced-requires c = omega (arith, field-few)

pub put_literal-said-requires : goal.put_literal-said-requires
put_literal-said-requires c = omega (arith, field-few, ap length c.sentence.ensures, sentence-short c.args.reason)

pub put_literal-requires : goal.put_literal-requires
put_literal-requires c = omega (arith, field-few, ap length c.sentence.ensures, sentence-short c.args.reason)

pub returns : goal.returns
returns c =
    reason-stored c.args.reason (c.from.ensures ∙ c.number.ensures) (omega arith) c.sentence.ensures c.put_literal-refused.ensures c.put_field-numbered.ensures c.put_literal-spaced.ensures c.put_literal-said.ensures c.put_literal.ensures
