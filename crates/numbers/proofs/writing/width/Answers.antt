-- `numbers::writing::width` meets its contract. Assumes nothing.
use native.Mathlib.Omega.{arith}
use Rattle.numbers.proofs.Digits.{digits-some, digits-few, length-one, length_last}
use Rattle.numbers.proofs.writing.width.Goals as goal

pub overflow_add-w : goal.overflow_add-w
overflow_add-w c =
    let few = digits-few c.args.n (omega arith) in omega (arith, c.loop-rest.invariant, digits-some c.loop-rest.rest, few)

pub loop-rest-preserved : goal.loop-rest-preserved
loop-rest-preserved c = omega (arith, c.loop-rest.invariant, length_last c.loop-rest.rest c.loop-rest-test.true)

pub returns : goal.returns
returns c =
    let few = digits-few c.args.n (omega arith) in
    let one = length-one c.loop-rest.rest c.loop-rest-test.false in
    (omega (arith, c.loop-rest.invariant, one), omega (arith, c.loop-rest.invariant, one, few))
