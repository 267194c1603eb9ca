-- `cart::text::put_rejected` meets its contract. Assumes nothing.
use native.Mathlib.Omega.{arith}
use Prim.Native.Nat.{◌<◌}
use Rattle.console.proofs.Printed.{field-few}
use Rattle.cart.proofs.Answers.{index-shown}
use Rattle.cart.proofs.text.put_rejected.Goals as goal

pub put_field-requires : goal.put_field-requires
put_field-requires c =
    let small : c.args.i < 18446744073709551616 =
    omega arith in
    omega (arith, c.put_literal-judged.ensures.next, field-few c.args.i 10 small)

pub returns : goal.returns
returns c =
    let small : c.args.i < 18446744073709551616 =
    omega arith in
    index-shown c.args.i small c.requires c.put_literal-judged.ensures c.put_field.ensures
