-- `wording::words::put_program` meets its contract. Assumes nothing.
use native.Mathlib.Omega.{arith}
use Rattle.numbers.proofs.Stores.{stored-then}
use Rattle.wording.proofs.words.put_program.Goals as goal

pub returns : goal.returns
returns c =
    (stored-then _ _ c.put_literal-named.ensures c.put_literal.ensures, omega (arith, c.put_literal-named.ensures.next, c.put_literal.ensures.next))
