-- `cart::say_sheet` is safe. Assumes nothing.
use mathlib.Core.Path.{sym}
use Prim.Native.Nat.{◌≤◌}
use native.Mathlib.Omega.{arith}
use lib.ListN.{length}
use lib.Seq.{length-take-le}
use Rattle.cart.proofs.say_sheet.Goals as goal

pub slice_bounds-say-end : goal.slice_bounds-say-end
slice_bounds-say-end c =
    let within : c.put_sheet-n.result ≤ length c.put_sheet-n.new.out =
    omega (arith, c.put_sheet-n.ensures.fits) in
    sym (length-take-le _ _ within)
