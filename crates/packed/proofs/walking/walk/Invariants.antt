-- The loops of `packed::walking::walk`.
use mathlib.Core.Path.{◌≡◌}
use lib.ListN.{take}
use Rattle.fdfa.specs.Family.{walk}
use Rattle.packed.specs.Columns.{column_step}
use Rattle.packed.proofs.walking.walk.Given as goal

abbrev pub invariant-loop-a : goal.invariant-loop-a
invariant-loop-a l = l.q ≡ walk (column_step l.table) l.state (take l.a-index l.word)
