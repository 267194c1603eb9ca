-- The loops of `search::reading::depth`.
use Rattle.search.proofs.ReadBack.{Counting}
use Rattle.search.proofs.reading.depth.Given as goal

abbrev pub invariant-loop-c : goal.invariant-loop-c
invariant-loop-c l = Counting l.cells l.code l.c l.d

abbrev pub decreases-loop-c : goal.decreases-loop-c
decreases-loop-c l = l.c
