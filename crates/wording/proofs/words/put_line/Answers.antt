-- `wording::words::put_line` meets its contract. Assumes nothing.
use native.Mathlib.Omega.{arith}
use Rattle.console.proofs.Printed.{field-few}
use Rattle.wording.proofs.Worded.{line-stored}
use Rattle.wording.proofs.words.put_line.Goals as goal

pub put_field-lined-requires : goal.put_field-lined-requires
put_field-lined-requires c = omega (arith, c.put_literal-named.ensures.next, field-few c.args.q.line 58 (omega arith))

pub put_field-requires : goal.put_field-requires
put_field-requires c =
    omega (arith, c.put_literal-named.ensures.next, c.put_field-lined.ensures.next, field-few c.args.q.line 58 (omega arith), field-few c.args.q.column 58 (omega arith))

pub returns : goal.returns
returns c =
    line-stored c.args.q (omega arith) (omega arith) c.put_literal-named.ensures c.put_field-lined.ensures c.put_field.ensures
