-- `cart::fill` is safe. Assumes nothing.
use mathlib.Core.Path.{sym}
use Prim.Native.Nat.{◌≤◌}
use native.Mathlib.Omega.{arith}
use lib.ListN.{length}
use lib.Seq.{length-take-le}
use Rattle.cart.proofs.fill.Goals as goal

pub slice_bounds-conclude-end : goal.slice_bounds-conclude-end
slice_bounds-conclude-end c =
    let within : c.gather-gathered.result.said ≤ length c.gather-gathered.new.said =
    omega (arith, c.gather-gathered.ensures.2) in
    sym (length-take-le _ _ within)
