-- `numbers::writing::put_digits` meets its contract. Assumes nothing.
use native.Mathlib.Omega.{arith}
use Rattle.numbers.proofs.Digits.{digits-some}
use Rattle.numbers.proofs.Backward.{is-small, behind-none, behind_more, behind-all}
use Rattle.numbers.proofs.writing.put_digits.Goals as goal

pub loop-i-init : goal.loop-i-init
loop-i-init c = behind-none _ _ _ _ c.width-w.ensures.0

pub loop-i-preserved : goal.loop-i-preserved
loop-i-preserved c = behind_more c.loop-i.invariant c.loop-i-test.true c.digit.ensures c.put.ensures

pub digit-requires-2 : goal.digit-requires-2
digit-requires-2 c = is-small _ (omega (arith, c.loop-i.invariant.long))

pub put-requires-2 : goal.put-requires-2
put-requires-2 c = omega (arith, digits-some c.args.n)

pub returns : goal.returns
returns c = behind-all c.loop-i.invariant c.loop-i-test.false c.width-w.ensures.0 c.digit-2.ensures c.put-2.ensures
