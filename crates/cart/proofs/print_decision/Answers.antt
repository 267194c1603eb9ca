-- `cart::print_decision` is safe. Assumes nothing.
use mathlib.Core.Path.{sym}
use Prim.Native.Nat.{◌≤◌}
use native.Mathlib.Omega.{arith}
use lib.ListN.{length}
use lib.Seq.{length-take-le}
use Rattle.cart.proofs.print_decision.Goals as goal

pub slice_bounds-print-end : goal.slice_bounds-print-end
slice_bounds-print-end c =
    let within : c.put_decision-decision.result.text ≤ length c.put_decision-decision.new.out =
    omega (arith, c.put_decision-decision.ensures.fits) in
    sym (length-take-le _ _ within)
