-- Filling the front of a slice cell by cell: its first m cells are lent, and come back with what is behind them. Assumes nothing.
use mathlib.Core.Path.{◌≡◌, ap, ◌∙◌}
use mathlib.Core.List.{List, ◌++◌}
use Prim.Native.Nat.{ℕ, ◌+◌, ◌≤◌, ◌<◌}
use native.Mathlib.Omega.{arith}
use lib.ListN.{length, set, take, drop, length-take}
use Rattle.slices.specs.Filling.{written}
use Rattle.slices.specs.Tables.{tab}
use Rattle.slices.proofs.Tables.{length-tab}
use Rattle.slices.proofs.Filling.{Filling, filling-none, filling-more, filling-all, written-prefix}

pub front-none : (m : ℕ) (f : ℕ → ℕ) (old : List ℕ) → m ≤ length old → Filling m f (take m old) (take m old) 0
front-none m f old h = filling-none m f _ (omega (arith, length-take m old))

pub front-more : {m : ℕ} {f : ℕ → ℕ} {out : List ℕ} {i : ℕ} (old : List ℕ) (v : ℕ) → Filling m f (take m old) out i → i < length out → v ≡ f i → Filling m f (take m old) (set out i v) (i + 1)
front-more {m} old v s h d = filling-more v s (omega (arith, s.same, length-take m old)) d

pub front-all : {m : ℕ} {f : ℕ → ℕ} {out : List ℕ} {i : ℕ} (old : List ℕ) → Filling m f (take m old) out i → m ≤ i → out ++ drop m old ≡ written (tab m f) old
front-all {m} {f} old s h = ap (λ (l : List ℕ). l ++ drop m old) (filling-all s h) ∙ written-prefix (tab m f) old (length-tab m f)
