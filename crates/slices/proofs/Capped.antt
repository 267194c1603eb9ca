-- What is capped: sums, and what lies below a bound. Assumes nothing.
use mathlib.Core.Path.{◌≡◌, ap, sym, ◌∙◌}
use mathlib.Core.Bool.{Bool, cond}
use Prim.Native.Nat.{ℕ, ◌+◌, ◌≤◌, ◌<◌}
use native.Mathlib.Omega.{arith}
use native.Mathlib.Decide.{dec_lt}
use borrow.Author.Tests.{lt-ltb, le-ltb}
use Rattle.slices.specs.Capped.{capped}

-- a number that a place holds, and one that is larger
pub capped_is : (n : ℕ) → n ≤ 18446744073709551615 → capped n ≡ n
capped_is n h = by (dec_lt n 18446744073709551615)
  where
    by : Dec (n < 18446744073709551615) → capped n ≡ n
    by (yes l) = ap (λ (b : Bool). cond b n 18446744073709551615) (lt-ltb n 18446744073709551615 l)
    by (no l) = ap (λ (b : Bool). cond b n 18446744073709551615) (le-ltb n 18446744073709551615 (omega arith)) ∙ omega arith

pub capped-most : (n : ℕ) → 18446744073709551615 ≤ n → capped n ≡ 18446744073709551615
capped-most n h = ap (λ (b : Bool). cond b n 18446744073709551615) (le-ltb n 18446744073709551615 h)

pub capped_le : (n : ℕ) → capped n ≤ n
capped_le n = by (dec_lt n 18446744073709551615)
  where
    by : Dec (n < 18446744073709551615) → capped n ≤ n
    by (yes l) = omega (arith, capped_is n (omega arith))
    by (no l) = omega (arith, capped-most n (omega arith))

-- what is capped and then goes on is capped whole
pub capped-sum : (a b : ℕ) → capped (capped a + b) ≡ capped (a + b)
capped-sum a b = by (dec_lt a 18446744073709551615)
  where
    by : Dec (a < 18446744073709551615) → capped (capped a + b) ≡ capped (a + b)
    by (yes l) = ap (λ (n : ℕ). capped (n + b)) (capped_is a (omega arith))
    by (no l) =
        ap (λ (n : ℕ). capped (n + b)) (capped-most a (omega arith))
        ∙ (capped-most (18446744073709551615 + b) (omega arith) ∙ sym (capped-most (a + b) (omega arith)))

-- a capped number that is below a bound is the number
pub capped-below : (n m : ℕ) → capped n ≤ m → m < 18446744073709551615 → n ≡ capped n
capped-below n m h l = by (dec_lt n 18446744073709551615)
  where
    by : Dec (n < 18446744073709551615) → n ≡ capped n
    by (yes k) = sym (capped_is n (omega arith))
    by (no k) = absurd (omega (arith, h, l, capped-most n (omega arith)))
