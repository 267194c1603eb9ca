-- The smallest number that passes a test, and the largest of some numbers. Assumes nothing.
use Rattle.std.specs.Prelude.{Bool, true, false, ℕ, zero, suc, max}

-- The smallest number below m that passes the test, or m where none does.
unfoldable pub least : ℕ → (ℕ → Bool) → ℕ
least zero p = zero
least (suc m) p = elim (p zero) [ true ↦ zero | false ↦ suc (least m (λ k. p (suc k))) ]

-- The largest of f 0, .., f (m − 1).
unfoldable pub largest : ℕ → (ℕ → ℕ) → ℕ
largest zero f = zero
largest (suc m) f = max (largest m f) (f m)
