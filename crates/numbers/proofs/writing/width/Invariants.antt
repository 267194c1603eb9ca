-- The loops of `numbers::writing::width`.
use mathlib.Core.Path.{◌≡◌}
use Prim.Native.Nat.{◌+◌}
use lib.ListN.{length}
use Rattle.numbers.specs.Digits.{digits_of}
use Rattle.numbers.proofs.writing.width.Given as goal

-- with those of what is left, one digit is counted twice
abbrev pub invariant-loop-rest : goal.invariant-loop-rest
invariant-loop-rest l = l.w + length (digits_of l.rest) ≡ length (digits_of l.n) + 1

abbrev pub decreases-loop-rest : goal.decreases-loop-rest
decreases-loop-rest l = l.rest
