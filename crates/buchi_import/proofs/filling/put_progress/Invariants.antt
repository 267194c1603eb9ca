-- The loops of `buchi_import::filling::put_progress`.
use Rattle.slices.specs.Tables.{tab, table}
use Rattle.fdfa.specs.Buchi.{from_buchi}
use Rattle.numbers.specs.Storing.{Stored}
use Rattle.buchi_import.specs.Steps.{automaton_in}
use Rattle.buchi_import.proofs.filling.put_progress.Given as goal

abbrev pub invariant-loop-p : goal.invariant-loop-p
invariant-loop-p l = Stored l.initial.out l.at (table l.p l.s ((from_buchi (automaton_in l.s l.n l.targets l.finals)).progress l.q)) l.out l.w

abbrev pub invariant-loop-a : goal.invariant-loop-a
invariant-loop-a l = Stored l.initial.out l.initial.w (tab l.a ((from_buchi (automaton_in l.s l.n l.targets l.finals)).progress l.q l.p)) l.out l.w
