-- `console::printing::put_number` meets its contract. Assumes nothing.
use native.Mathlib.Omega.{arith}
use Rattle.numbers.proofs.Digits.{length-field, digits-few}
use Rattle.console.proofs.Printed.{number-shown}
use Rattle.console.proofs.printing.put_number.Goals as goal

pub put_field-requires : goal.put_field-requires
put_field-requires c = let few = digits-few c.args.n (omega arith) in omega (arith, length-field c.args.n c.args.end, few)

pub returns : goal.returns
returns c = number-shown c.args.n c.args.end (omega arith) c.requires c.put_field.ensures
