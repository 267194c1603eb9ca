-- The loops of `running_sheet::writing::put_lines`.
use Rattle.slices.specs.Tables.{rows}
use Rattle.numbers.specs.Storing.{Stored}
use Rattle.running_sheet.specs.Places.{line_at}
use Rattle.running_sheet.proofs.writing.put_lines.Given as goal

abbrev pub invariant-loop-c : goal.invariant-loop-c
invariant-loop-c l = Stored l.initial.out l.at (rows l.c-index (line_at l.start l.word l.seconds)) l.out l.p
