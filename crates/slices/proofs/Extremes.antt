-- The laws of `least` and `largest`: the smallest number below the bound that passes; none is larger, and a bound on all is a
-- bound on it. Assumes nothing.
use mathlib.Core.Path.{◌≡◌, refl, ap, ap₂}
use mathlib.Core.Bool.{Bool, true, false}
use Prim.Native.Nat.{ℕ, zero, suc, max, ◌≤◌, ◌<◌}
use native.Mathlib.Omega.{arith}
use native.Mathlib.Nat.{le_of_suc-le-suc}
use native.Mathlib.Decide.{dec_lt, ℕ_discrete}
use Rattle.slices.specs.Extremes.{least, largest}

least-here : (m : ℕ) (p : ℕ → Bool) → p 0 ≡ true → least (suc m) p ≡ 0
unfolding least
least-here m p e = rw (e, least)

least_on : (m : ℕ) (p : ℕ → Bool) → p 0 ≡ false → least (suc m) p ≡ suc (least m (λ i. p (suc i)))
unfolding least
least_on m p e = rw (e, least)

-- at most each number below the bound that passes
pub least-le : (m : ℕ) (p : ℕ → Bool) (k : ℕ) → k < m → p k ≡ true → least m p ≤ k
least-le zero p k h e = absurd (omega arith)
least-le (suc m) p zero h e = omega (arith, least-here m p e)
least-le (suc m) p (suc k) h e = by (p 0) refl (least-le m (λ i. p (suc i)) k (le_of_suc-le-suc h) e)
  where
    by : (b : Bool) → p 0 ≡ b → least m (λ i. p (suc i)) ≤ k → least (suc m) p ≤ suc k
    by true d ih = omega (arith, least-here m p d)
    by false d ih = omega (arith, least_on m p d)

-- below the bound, it passes
pub least-passes : (m : ℕ) (p : ℕ → Bool) → least m p < m → p (least m p) ≡ true
least-passes zero p h = absurd (omega arith)
least-passes (suc m) p h = by (p 0) refl (least-passes m (λ i. p (suc i)))
  where
    by : (b : Bool) → p 0 ≡ b → (least m (λ i. p (suc i)) < m → p (suc (least m (λ i. p (suc i)))) ≡ true) → p (least (suc m) p) ≡ true
    by true d ih = rw (least-here m p d) d
    by false d ih = rw (least_on m p d) (ih (omega (arith, least_on m p d)))

pub least-bound : (m : ℕ) (p : ℕ → Bool) → least m p ≤ m
unfolding least
least-bound zero p = omega arith
least-bound (suc m) p = by (p 0) refl (least-bound m (λ i. p (suc i)))
  where
    by : (b : Bool) → p 0 ≡ b → least m (λ i. p (suc i)) ≤ m → least (suc m) p ≤ suc m
    by true d ih = omega (arith, least-here m p d)
    by false d ih = omega (arith, least_on m p d)

-- none before it passes
pub least-before : (m : ℕ) (p : ℕ → Bool) (k : ℕ) → k < least m p → p k ≡ true → ⊥
least-before m p k h e = omega (arith, least-bound m p, least-le m p k (omega (arith, least-bound m p)) e)

-- the number that passes with none before it
pub least-is : (m : ℕ) (p : ℕ → Bool) (i : ℕ) → i < m → ((k : ℕ) → k < i → p k ≡ true → ⊥) → p i ≡ true → least m p ≡ i
least-is m p i h before e = by (dec_lt (least m p) i)
  where
    by : Dec (least m p < i) → least m p ≡ i
    by (yes l) = absurd (before (least m p) l (least-passes m p (omega arith)))
    by (no l) = omega (arith, least-le m p i h e)

pub least-none : (m : ℕ) (p : ℕ → Bool) → ((k : ℕ) → k < m → p k ≡ true → ⊥) → least m p ≡ m
least-none m p none = by (dec_lt (least m p) m)
  where
    by : Dec (least m p < m) → least m p ≡ m
    by (yes l) = absurd (none (least m p) l (least-passes m p l))
    by (no l) = omega (arith, least-bound m p)

-- tests that agree below the bound
pub least-same : (m : ℕ) (p q : ℕ → Bool) → ((i : ℕ) → i < m → p i ≡ q i) → least m p ≡ least m q
unfolding least
least-same zero p q h = refl
least-same (suc m) p q h =
    ap₂ (λ (t : Bool) (k : ℕ). elim t [ true ↦ zero | false ↦ suc k ]) (h 0 (omega arith))
    (least-same m (λ i. p (suc i)) (λ i. q (suc i)) (λ i l. h (suc i) (omega arith)))

pub largest-le : (m : ℕ) (f : ℕ → ℕ) (q : ℕ) → q < m → f q ≤ largest m f
unfolding largest
largest-le zero f q h = absurd (omega arith)
largest-le (suc m) f q h = by (largest-le m f q) (ℕ_discrete q m)
  where
    by : (q < m → f q ≤ largest m f) → Dec (q ≡ m) → f q ≤ max (largest m f) (f m)
    by ih (yes e) = omega (arith, ap f e)
    by ih (no e) = omega (arith, ih (omega arith))

pub largest-most : (m : ℕ) (f : ℕ → ℕ) (c : ℕ) → ((q : ℕ) → q < m → f q ≤ c) → largest m f ≤ c
unfolding largest
largest-most zero f c h = omega arith
largest-most (suc m) f c h = omega (arith, largest-most m f c (λ q l. h q (omega arith)), h m (omega arith))
