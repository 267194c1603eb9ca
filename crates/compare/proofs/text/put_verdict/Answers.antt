-- `compare::text::put_verdict` meets its contract. Assumes nothing.
use native.Mathlib.Omega.{arith}
use Rattle.console.proofs.Printed.{field-few}
use Rattle.compare.proofs.Blocks.{verdict-stored}
use Rattle.compare.proofs.text.put_verdict.Goals as goal

pub put_field-reached-requires : goal.put_field-reached-requires
put_field-reached-requires c =
    omega (arith, c.requires, c.put_literal-named.ensures.next, c.put_literal-judged.ensures.next, field-few c.args.z.reached 32 (omega arith))

pub put_field-opened-requires : goal.put_field-opened-requires
put_field-opened-requires c =
    omega (arith, c.requires, c.put_literal-named.ensures.next, c.put_literal-judged.ensures.next, c.put_field-reached.ensures.next, field-few c.args.z.reached 32 (omega arith), field-few c.args.z.prefix 32 (omega arith))

pub put_field-requires : goal.put_field-requires
put_field-requires c =
    omega (arith, c.requires, c.put_literal-named.ensures.next, c.put_literal-judged.ensures.next, c.put_field-reached.ensures.next, c.put_field-opened.ensures.next, field-few c.args.z.reached 32 (omega arith), field-few c.args.z.prefix 32 (omega arith), field-few c.args.z.period 10 (omega arith))

pub returns : goal.returns
returns c =
    verdict-stored _ c.args.z c.requires.0 (omega arith) (omega arith) (omega arith) c.put_literal-named.ensures c.put_literal-judged.ensures c.put_field-reached.ensures c.put_field-opened.ensures c.put_field.ensures
