-- `numbers::writing::put_field` meets its contract. Assumes nothing.
use native.Mathlib.Omega.{arith}
use Rattle.numbers.proofs.Digits.{length-field, field-some, field-more}
use Rattle.numbers.proofs.Stores.{stored-then}
use Rattle.numbers.proofs.Backward.{field-one, field-two}
use Rattle.numbers.proofs.writing.put_field.Goals as goal

pub put-p-requires : goal.put-p-requires
put-p-requires c = omega (arith, c.requires, field-some c.args.n c.args.end)

pub put-requires : goal.put-requires
put-requires c = omega (arith, c.requires, field-some c.args.n c.args.end, c.put-p.ensures.next)

pub returns-then-n-lt10 : goal.returns-then-n-lt10
returns-then-n-lt10 c = field-one _ _ _ c.if-n-lt10.true c.digit.ensures c.put-p.ensures c.put.ensures

pub put-p-requires-then-n-lt100 : goal.put-p-requires-then-n-lt100
put-p-requires-then-n-lt100 c = omega (arith, c.requires, field-some c.args.n c.args.end)

pub put-r-requires : goal.put-r-requires
put-r-requires c = omega (arith, c.requires, field-some c.args.n c.args.end, c.put-p-then-n-lt100.ensures.next)

pub put-requires-then-n-lt100 : goal.put-requires-then-n-lt100
put-requires-then-n-lt100 c =
    omega (arith, c.requires, field-more c.args.n c.args.end c.if-n-lt10.false, c.put-p-then-n-lt100.ensures.next, c.put-r.ensures.next)

pub returns-then-n-lt100 : goal.returns-then-n-lt100
returns-then-n-lt100 c =
    field-two _ _ _ _ c.if-n-lt10.false c.if-n-lt100.true c.digit-then-n-lt100.ensures c.digit-then-n-lt100-2.ensures c.put-p-then-n-lt100.ensures c.put-r.ensures c.put-then-n-lt100.ensures

pub put_digits-p-requires : goal.put_digits-p-requires
put_digits-p-requires c = omega (arith, c.requires, length-field c.args.n c.args.end)

pub put-requires-2 : goal.put-requires-2
put-requires-2 c = omega (arith, c.requires, length-field c.args.n c.args.end, c.put_digits-p.ensures.next)

pub returns : goal.returns
returns c = stored-then _ _ c.put_digits-p.ensures c.put-2.ensures
