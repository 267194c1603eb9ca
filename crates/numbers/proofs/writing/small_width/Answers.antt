-- `numbers::writing::small_width` meets its contract. Assumes nothing.
use native.Mathlib.Omega.{arith}
use Rattle.numbers.proofs.Digits.{length_digits}
use Rattle.numbers.proofs.Smalls.{small_width}
use Rattle.numbers.proofs.writing.small_width.Goals as goal

pub overflow_add-result : goal.overflow_add-result
overflow_add-result c =
    omega (arith, c.at_least.ensures, small_width c.args.n c.requires, length_digits c.args.n c.requires)

pub overflow_add-result-2 : goal.overflow_add-result-2
overflow_add-result-2 c =
    omega (arith, c.at_least-2.ensures, c.at_least.ensures, small_width c.args.n c.requires, length_digits c.args.n c.requires)

pub returns : goal.returns
returns c = omega (arith, c.at_least-2.ensures, c.at_least.ensures, small_width c.args.n c.requires)
