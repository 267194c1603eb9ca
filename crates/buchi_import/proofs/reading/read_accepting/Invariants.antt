-- The loops of `buchi_import::reading::read_accepting`.
use mathlib.Core.Path.{◌≡◌}
use Prim.Native.Nat.{◌-◌, ◌≤◌}
use lib.ListN.{length}
use Rattle.format.specs.Format.{stands}
use Rattle.buchi_import.proofs.Noting.{Noting}
use Rattle.buchi_import.proofs.reading.read_accepting.Given as goal

abbrev pub invariant-loop-more : goal.invariant-loop-more
invariant-loop-more l = (l.more ≡ stands l.text 91 l.p) × (l.at ≤ length l.text) × Noting l.limit l.text l.at l.initial.finals l.finals l.p l.k l.low

abbrev pub decreases-loop-more : goal.decreases-loop-more
decreases-loop-more l = length l.text - l.k
