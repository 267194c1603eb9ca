-- The loop of `carts::verdicts::first_rejected`.
use mathlib.Core.Path.{◌≡◌}
use Prim.Native.Nat.{◌+◌, ◌-◌}
use Rattle.packed.specs.Layout.{decode}
use Rattle.carts.specs.Reading.{shows_from}
use Rattle.carts.specs.Loads.{first_rejected_of}
use Rattle.carts.specs.Steps.{GoodShows}
use Rattle.carts.proofs.verdicts.first_rejected.Given as goal

abbrev pub invariant-loop-i : goal.invariant-loop-i
invariant-loop-i l = GoodShows l.sheet l.cart l.at (l.count - l.i) × (l.i + first_rejected_of (decode l.sheet) (shows_from l.cart l.at (l.count - l.i)) ≡ first_rejected_of (decode l.sheet) (shows_from l.cart 1 l.count))
