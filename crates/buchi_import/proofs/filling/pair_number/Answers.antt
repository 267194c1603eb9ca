-- `buchi_import::filling::pair_number` meets its contract. Assumes nothing.
use Prim.Native.Nat.{ℕ, ◌+◌, ◌-◌, ◌%◌, ◌<◌}
use native.Mathlib.Omega.{arith}
use native.Mathlib.Nat.{mod-lt}
use Rattle.buchi_import.proofs.filling.pair_number.Goals as goal

-- the place of the state, counted from q around the circle
low : (n q r : ℕ) → q < n → (r + n - q) % n < n
low n q r h = mod-lt (r + n - q) (omega arith)

pub overflow_mul-result : goal.overflow_mul-result
overflow_mul-result c = omega (arith, low c.args.n c.args.q c.args.r c.requires.0, c.requires.1)

pub overflow_add-result-2 : goal.overflow_add-result-2
overflow_add-result-2 c = omega (arith, low c.args.n c.args.q c.args.r c.requires.0, c.requires.1, c.requires.3)
