-- Two automata side by side. Assumes nothing.
use mathlib.Core.Path.{◌≡◌, refl, ap₂}
use Prim.Native.Nat.{ℕ, ◌+◌, ◌*◌, ◌<◌}
use lib.Arith.{digits_div, digits_mod}
use Rattle.search.specs.Words.{Word, ε, ◌·◌, run, Over}
use Rattle.fdfa.specs.Boolean.{beside}
use Rattle.fdfa.specs.Family.{Closed}

pub run-within : {s n : ℕ} {F : ℕ → ℕ → ℕ} → Closed s n F → {p : ℕ} → p < n → (v : Word) → Over s v → run F p v < n
run-within f h ε o = h
run-within f h (v · a) o = f _ a (run-within f h v o.0) o.1

pub prod-run : {s n k : ℕ} {F G : ℕ → ℕ → ℕ} → Closed s n F → Closed s k G → {p l : ℕ} → p < n → l < k → (v : Word) → Over s v
    → run (beside k F G) (p * k + l) v ≡ run F p v * k + run G l v
prod-run f g h i ε o = refl
prod-run {k = k} {F = F} {G = G} f g {p} {l} h i (v · a) o =
    rw (prod-run f g h i v o.0) (ap₂ (λ (x y : ℕ). F x a * k + G y a) (digits_div (run F p v) (run-within g i v o.0)) (digits_mod (run F p v) (run-within g i v o.0)))
