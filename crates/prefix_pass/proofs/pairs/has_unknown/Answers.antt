-- `prefix_pass::pairs::has_unknown` meets its contract. Assumes nothing.
use native.Mathlib.Omega.{arith}
use borrow.Author.Tests.{leb-false}
use Rattle.prefix_pass.proofs.pairs.has_unknown.Goals as goal

pub returns-then-letters-a : goal.returns-then-letters-a
returns-then-letters-a c = λ e. absurd (omega (arith, c.if-letters-a.true, leb-false c.args.letters c.args.a e))
