-- The loops of `search::reading::fill`.
use Rattle.search.proofs.ReadBack.{Filling}
use Rattle.search.proofs.reading.fill.Given as goal

abbrev pub invariant-loop-at : goal.invariant-loop-at
invariant-loop-at l = Filling l.cells l.code l.len l.initial.out l.out l.c l.at
