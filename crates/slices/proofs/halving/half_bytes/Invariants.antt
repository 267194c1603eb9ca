-- The loop of `slices::halving::half_bytes`.
use Rattle.slices.proofs.Halved.{Halving}
use Rattle.slices.proofs.halving.half_bytes.Given as goal

abbrev pub invariant-loop-i : goal.invariant-loop-i
invariant-loop-i l = Halving l.cells l.initial.bytes l.bytes l.i
