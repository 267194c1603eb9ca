-- The loops of `cart::gathering::gather`.
use mathlib.Core.Path.{◌≡◌}
use Prim.Native.Nat.{◌≤◌}
use lib.ListN.{length}
use Rattle.cart_files.specs.Gathered.{Bounded}
use Rattle.cart.specs.Said.{Sourced}
use Rattle.cart.proofs.gathering.gather.Given as goal

abbrev pub invariant-loop-i : goal.invariant-loop-i
invariant-loop-i l = (length l.cart ≡ 524545) × (length l.said ≡ 4352) × (l.gathered.held.count ≡ l.i) × Bounded l.gathered.held × (l.gathered.said ≤ 4352) × (l.i ≤ l.shows)
    × Sourced l.cart l.said l.gathered.held l.gathered.said
