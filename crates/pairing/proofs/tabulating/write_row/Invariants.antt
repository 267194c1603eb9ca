-- The loops of `pairing::tabulating::write_row`.
use Rattle.slices.proofs.Filling.{Filling}
use Rattle.pairing.specs.Pairs.{next_pair_of}
use Rattle.pairing.proofs.tabulating.write_row.Given as goal

abbrev pub invariant-loop-a : goal.invariant-loop-a
invariant-loop-a l = Filling l.t.letters (next_pair_of l.first l.second l.t l.x) l.initial.next-items l.next-items l.a
