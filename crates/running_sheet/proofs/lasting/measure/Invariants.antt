-- The loops of `running_sheet::lasting::measure`.
use mathlib.Core.Path.{◌≡◌}
use Prim.Native.Nat.{◌*◌, ◌≤◌}
use lib.ListN.{length}
use Rattle.slices.specs.Tables.{rows}
use Rattle.running_sheet.specs.Places.{line_at}
use Rattle.running_sheet.proofs.lasting.measure.Given as goal

abbrev pub invariant-loop-c : goal.invariant-loop-c
invariant-loop-c l = (l.long ≡ length (rows l.c-index (line_at l.start l.word l.seconds))) × (l.long ≤ l.c-index * 16)
