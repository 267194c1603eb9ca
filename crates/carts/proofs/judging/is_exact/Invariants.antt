-- The loop of `carts::judging::is_exact`.
use mathlib.Core.Path.{◌≡◌}
use Prim.Native.Nat.{◌-◌, ◌≤◌}
use lib.ListN.{length}
use Rattle.carts.specs.Reading.{end_from}
use Rattle.carts.proofs.judging.is_exact.Given as goal

abbrev pub invariant-loop : goal.invariant-loop
invariant-loop l = (l.at ≤ length l.cart) × (end_from l.cart l.at (l.count - l.counter) ≡ end_from l.cart 1 l.count)
