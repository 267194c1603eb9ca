-- `wording::words::put_byte` meets its contract. Assumes nothing.
use native.Mathlib.Omega.{arith}
use Rattle.console.proofs.Printed.{field-few}
use Rattle.wording.proofs.Worded.{byte-stored}
use Rattle.wording.proofs.words.put_byte.Goals as goal

pub put_field-requires : goal.put_field-requires
put_field-requires c = omega (arith, c.put_literal-named.ensures.next, field-few c.args.place 58 (omega arith))

pub returns : goal.returns
returns c = byte-stored c.args.place (omega arith) c.put_literal-named.ensures c.put_field.ensures
