-- The loop of `answers::tell`.
use lib.ListN.{get_or}
use Rattle.slices.proofs.Filling.{Begun}
use Rattle.slices.specs.Tables.{rows}
use Rattle.answers.specs.Layout.{number_bytes}
use Rattle.answers.proofs.tell.Given as goal

abbrev pub invariant-loop-k : goal.invariant-loop-k
invariant-loop-k l = Begun (rows l.k (λ i. number_bytes (get_or l.numbers i 0))) l.initial.answer l.answer
