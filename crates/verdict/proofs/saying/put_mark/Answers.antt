-- `verdict::saying::put_mark` meets its contract. Assumes nothing.
use mathlib.Core.Bool.{true, false}
use native.Mathlib.Omega.{arith}
use Rattle.verdict.proofs.Spoken.{mark-stored}
use Rattle.verdict.proofs.saying.put_mark.Goals as goal

pub returns-then-accepted : goal.returns-then-accepted
returns-then-accepted c = mark-stored true c.if-accepted.true (omega arith) c.put_literal.ensures

pub returns : goal.returns
returns c = mark-stored false c.if-accepted.false (omega arith) c.put_literal-2.ensures
