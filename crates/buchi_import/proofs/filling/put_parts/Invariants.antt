-- The loops of `buchi_import::filling::put_parts`.
use Rattle.slices.specs.Tables.{rows}
use Rattle.fdfa.specs.Buchi.{from_buchi}
use Rattle.packed.specs.Layout.{part_bytes}
use Rattle.numbers.specs.Storing.{Stored}
use Rattle.buchi_import.specs.Steps.{automaton_in}
use Rattle.buchi_import.proofs.filling.put_parts.Given as goal

abbrev pub invariant-loop-q : goal.invariant-loop-q
invariant-loop-q l = Stored l.initial.out l.at (rows l.q (part_bytes (from_buchi (automaton_in l.s l.n l.targets l.finals)))) l.out l.w
