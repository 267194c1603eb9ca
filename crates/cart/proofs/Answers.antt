-- What is printed for a show that is rejected. Assumes nothing.
use mathlib.Core.List.{List}
use Prim.Native.Nat.{ℕ, ◌≤◌, ◌<◌}
use native.Mathlib.Omega.{arith}
use lib.ListN.{length}
use Rattle.slices.specs.Texts.{bytes}
use Rattle.numbers.specs.Digits.{field}
use Rattle.numbers.specs.Storing.{Stored}
use Rattle.numbers.proofs.Stores.{stored-then}
use Rattle.console.specs.Printed.{Shows}
use Rattle.console.proofs.Printed.{field-few, stored-shows}
use Rattle.cart.specs.Text.{rejected_text}

pub index-shown : {old mid new : List ℕ} {p r : ℕ} (i : ℕ) → i < 18446744073709551616 → 80 ≤ length old → Stored old 0 (bytes "rejected\n") mid p → Stored mid p (field i 10) new r
    → Shows (rejected_text i) old new r
index-shown i h k a b = stored-shows {room = 80} (stored-then _ _ a b) (omega (arith, a.next, b.next, field-few i 10 h)) k
