-- The complement keeps i, j, q and the end, and reverses every verdict, turn_proof or not (002, Theorem 4.1). Assumes nothing.
use mathlib.Core.Path.{◌≡◌, refl}
use mathlib.Core.Bool.{not}
use mathlib.Core.List.{List}
use Prim.Native.Nat.{ℕ}
use Rattle.fdfa.specs.Family.{Fdfa, Complete}
use Rattle.fdfa.specs.Normalization.{preperiod, period_count}
use Rattle.fdfa.specs.Acceptance.{loop_state, end_state, accepts}
use Rattle.fdfa.specs.Boolean.{complement}

pub complement-reverses : (F : Fdfa) (u v : List ℕ) → accepts (complement F) u v ≡ not (accepts F u v)
complement-reverses F u v = refl

pub complement-keeps : (F : Fdfa) (u v : List ℕ)
    → (preperiod (complement F) u v ≡ preperiod F u v) × (period_count (complement F) u v ≡ period_count F u v) × (loop_state (complement F) u v ≡ loop_state F u v) × (end_state (complement F) u v ≡ end_state F u v)
complement-keeps F u v = (refl, refl, refl, refl)

pub complement-complete : (F : Fdfa) → Complete F → Complete (complement F)
complement-complete F c = record { start = c.start; leads = c.leads; starts = c.starts; progresses = c.progresses }
