-- The loop of `slices::copying::copy`.
use lib.ListN.{length, get_or}
use Rattle.slices.proofs.Filling.{Filling}
use Rattle.slices.proofs.copying.copy.Given as goal

abbrev pub invariant-loop-i : goal.invariant-loop-i
invariant-loop-i l = Filling (length l.from) (λ k. get_or l.from k 0) l.initial.out l.out l.i
