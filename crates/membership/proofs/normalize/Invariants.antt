-- The loops of `membership::normalize`.
use mathlib.Core.Path.{◌≡◌}
use Prim.Native.Nat.{◌-◌, ◌≤◌}
use Rattle.membership.specs.Steps.{turns_from}
use Rattle.membership.proofs.Seen.{Seen}
use Rattle.membership.proofs.normalize.Given as goal

abbrev pub invariant-loop-seen : goal.invariant-loop-seen
invariant-loop-seen l = Seen (turns_from l.table l.state l.period) l.seen l.t × (l.t ≤ 32) × (l.q ≡ turns_from l.table l.state l.period l.t)

abbrev pub decreases-loop-seen : goal.decreases-loop-seen
decreases-loop-seen l = 32 - l.t
