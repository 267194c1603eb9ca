-- The loops of `blocks::writing::put_parts`.
use Rattle.slices.specs.Tables.{rows}
use Rattle.packed.specs.Layout.{decode}
use Rattle.numbers.specs.Storing.{Stored}
use Rattle.blocks.specs.Lines.{part_text}
use Rattle.blocks.proofs.writing.put_parts.Given as goal

abbrev pub invariant-loop-q : goal.invariant-loop-q
invariant-loop-q l = Stored l.initial.out l.at (rows l.q (part_text (decode l.sheet))) l.out l.p
