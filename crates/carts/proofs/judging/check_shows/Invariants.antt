-- The loop of `carts::judging::check_shows`.
use mathlib.Core.Path.{◌≡◌}
use Prim.Native.Nat.{◌-◌}
use lib.ListN.{length}
use Rattle.carts.specs.Reading.{end_from}
use Rattle.carts.specs.Faults.{shows_fault}
use Rattle.carts.proofs.judging.check_shows.Given as goal

abbrev pub invariant-loop : goal.invariant-loop
invariant-loop l = (end_from l.cart l.at (l.count - l.counter) ≡ length l.cart) × (shows_fault l.letters l.cart l.at (l.count - l.counter) ≡ shows_fault l.letters l.cart 1 l.count)
