-- The first cells of a slice, lent and filled one by one. Assumes nothing.
use mathlib.Core.Path.{◌≡◌, ap, ◌∙◌}
use mathlib.Core.List.{List, ◌++◌}
use Prim.Native.Nat.{ℕ, ◌≤◌}
use native.Mathlib.Omega.{arith}
use lib.ListN.{length, take, drop}
use lib.Seq.{length-take-le}
use Rattle.slices.specs.Filling.{written}
use Rattle.slices.specs.Tables.{tab}
use Rattle.slices.proofs.Tables.{length-tab}
use Rattle.slices.proofs.Filling.{Filling, filling-none, filling-all, written-prefix}

pub lent_none : (m : ℕ) (f : ℕ → ℕ) (out : List ℕ) → m ≤ length out → Filling m f (take m out) (take m out) 0
lent_none m f out h = filling-none m f (take m out) (omega (arith, length-take-le m out h))

-- they come back filled
pub lent_all : {m : ℕ} {f : ℕ → ℕ} (out : List ℕ) {cells : List ℕ} {i : ℕ} → Filling m f (take m out) cells i → m ≤ i → cells ++ drop m out ≡ written (tab m f) out
lent_all {m} {f} out s h = ap (λ (l : List ℕ). l ++ drop m out) (filling-all s h) ∙ written-prefix (tab m f) out (length-tab m f)
