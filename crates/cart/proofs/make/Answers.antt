-- `cart::make` is safe. Assumes nothing.
use mathlib.Core.Path.{sym}
use Prim.Native.Nat.{ℕ}
use lib.ListN.{length-replicate}
use Rattle.cart.proofs.make.Goals as goal

pub slice_bounds-fill-end : goal.slice_bounds-fill-end
slice_bounds-fill-end c = sym (length-replicate {A = ℕ} 524545 0)

pub fill-requires : goal.fill-requires
fill-requires c = (c.requires.0, c.requires.1, length-replicate {A = ℕ} 524545 0)
