-- What a call filled fits the slice that it was lent, where the last of its tests is for too little room. Assumes nothing.
use Rattle.slices.specs.declared.Reason.TheVariants.{TooLittleRoom}
use Rattle.std.specs.Prelude.{Ok}
use mathlib.Core.Path.{◌≡◌}
use Prim.Native.Nat.{ℕ, ◌≤◌}
use native.Mathlib.Omega.{arith}
use lib.Dec.{ltb}
use borrow.Author.Tests.{ltb-false}
use Rattle.slices.specs.declared.Part.TheVariants.{Out}
use Rattle.slices.specs.Refusals.{Fault, ◌then◌, when, unless}
use Rattle.slices.proofs.Refusals.{then-right, when-sound, was-given}

pub fits : (f : Fault) (room need : ℕ) {n : ℕ} → Ok n ≡ unless (f then when (ltb room need) TooLittleRoom Out need) need → n ≤ room
fits f room need e =
    let g = was-given (f then when (ltb room need) TooLittleRoom Out need) need e in
    omega (arith, g.1, ltb-false room need (when-sound (ltb room need) TooLittleRoom Out need (then-right f _ g.0)))
