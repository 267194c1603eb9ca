-- `cart::say_unknown` is safe. Assumes nothing.
use mathlib.Core.Path.{sym}
use Prim.Native.Nat.{◌≤◌}
use native.Mathlib.Omega.{arith}
use lib.ListN.{length}
use lib.Seq.{length-take-le}
use Rattle.cart.proofs.say_unknown.Goals as goal

pub slice_bounds-say-end : goal.slice_bounds-say-end
slice_bounds-say-end c =
    let within : c.put_unknown-m.result ≤ length c.put_unknown-m.new.out =
    omega (arith, c.put_unknown-m.ensures.fits) in
    sym (length-take-le _ _ within)
