-- The loop of `standing::walk`.
use mathlib.Core.Path.{◌≡◌}
use lib.ListN.{take}
use Rattle.fdfa.specs.Family.{walk}
use Rattle.packed.specs.Layout.{table_step}
use Rattle.standing.proofs.walk.Given as goal

abbrev pub invariant-loop-letter : goal.invariant-loop-letter
invariant-loop-letter l = (l.p ≡ walk (table_step l.first l.t.first l.t.letters) 0 (take l.letter-index l.word))
    × (l.q ≡ walk (table_step l.second l.t.second l.t.letters) 0 (take l.letter-index l.word))
