-- The loop of `numbers::writing::put_digits`.
use Rattle.numbers.proofs.Backward.{Behind}
use Rattle.numbers.proofs.writing.put_digits.Given as goal

abbrev pub invariant-loop-i : goal.invariant-loop-i
invariant-loop-i l = Behind l.n l.initial.out l.at l.i l.rest l.out
