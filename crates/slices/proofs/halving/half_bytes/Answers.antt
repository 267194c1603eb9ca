-- `slices::halving::half_bytes` meets its contract. Assumes nothing.
use mathlib.Core.Path.{refl, ap}
use mathlib.Core.List.{List}
use Prim.Native.Nat.{ℕ}
use lib.ListN.{get_or}
use native.Mathlib.Omega.{arith}
use Rattle.slices.proofs.Halved.{halving-none, halving-more, halving-all}
use Rattle.slices.proofs.halving.half_bytes.Goals as goal

pub loop-i-init : goal.loop-i-init
loop-i-init c = halving-none _ _ c.requires

pub loop-i-preserved : goal.loop-i-preserved
loop-i-preserved c =
    halving-more c.loop-i.invariant _ _ _ (omega arith) refl (ap (λ (l : List ℕ). get_or l 0 0) c.to_le_bytes.ensures)
    (omega (arith, ap (λ (l : List ℕ). get_or l 1 0) c.to_le_bytes.ensures, c.type_inv.cells c.loop-i.i))

pub returns : goal.returns
returns c = halving-all c.loop-i.invariant (omega arith)
