-- The loops of `running_sheet::lasting::sum_seconds`.
use mathlib.Core.Path.{◌≡◌}
use Prim.Native.Nat.{◌*◌, ◌≤◌}
use Rattle.slices.specs.Tables.{sum}
use Rattle.running_sheet.specs.Places.{seconds_at}
use Rattle.running_sheet.proofs.lasting.sum_seconds.Given as goal

abbrev pub invariant-loop-letter : goal.invariant-loop-letter
invariant-loop-letter l = (l.total ≡ sum l.letter-index (seconds_at l.word l.seconds)) × (l.total ≤ l.letter-index * 999)
