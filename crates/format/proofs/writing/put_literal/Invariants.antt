-- The loops of `format::writing::put_literal`.
use lib.ListN.{get_or}
use Rattle.slices.specs.Tables.{tab}
use Rattle.numbers.specs.Storing.{Stored}
use Rattle.format.proofs.writing.put_literal.Given as goal

abbrev pub invariant-loop-c : goal.invariant-loop-c
invariant-loop-c l = Stored l.initial.out l.at (tab l.c-index (λ j. get_or l.due j 0)) l.out l.p
