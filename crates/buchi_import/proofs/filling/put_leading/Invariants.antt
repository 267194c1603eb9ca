-- The loops of `buchi_import::filling::put_leading`.
use lib.ListN.{get_or}
use Rattle.slices.specs.Tables.{tab}
use Rattle.numbers.specs.Storing.{Stored}
use Rattle.buchi_import.proofs.filling.put_leading.Given as goal

abbrev pub invariant-loop-r : goal.invariant-loop-r
invariant-loop-r l = Stored l.initial.out l.at (tab l.r-index (λ i. get_or l.targets i 0)) l.out l.w
