-- The digits of a number, by its size, and the last of them. Assumes nothing.
use mathlib.Core.Path.{◌≡◌, ap, sym, ◌∙◌}
use mathlib.Core.Bool.{cond}
use mathlib.Core.List.{List, [], ◌∷◌, ◌++◌}
use Prim.Native.Nat.{ℕ, zero, suc, ◌+◌, ◌/◌, ◌%◌, ◌^◌, ◌≤◌, ◌<◌}
use native.Mathlib.Nat.{pow-suc, div-lt_iff_lt-mul}
use native.Mathlib.Omega.{arith}
use native.Mathlib.Decide.{dec_lt}
use lib.ListN.{length, length-append}
use borrow.Author.Tests.{lt-ltb, le-ltb}
use Rattle.numbers.specs.Digits.{digits_within, digits_of, field}

within-one : (k n : ℕ) → n < 10 → digits_within (suc k) n ≡ (48 + n) ∷ []
unfolding digits_within
within-one k n h = rw (lt-ltb n 10 h)

within_more : (k n : ℕ) → 10 ≤ n → digits_within (suc k) n ≡ digits_within k (n / 10) ++ ((48 + n % 10) ∷ [])
unfolding digits_within
within_more k n h = ap (λ b. cond b ((48 + n) ∷ []) (digits_within k (n / 10) ++ ((48 + n % 10) ∷ []))) (le-ltb n 10 h)

-- any bound above n says the same
within-enough : (k j n : ℕ) → n < k → n < j → digits_within k n ≡ digits_within j n
within-enough zero j n h l = absurd (omega arith)
within-enough (suc k) zero n h l = absurd (omega arith)
within-enough (suc k) (suc j) n h l = by (dec_lt n 10) (within-enough k j (n / 10))
  where
    by : Dec (n < 10) → (n / 10 < k → n / 10 < j → digits_within k (n / 10) ≡ digits_within j (n / 10)) → digits_within (suc k) n ≡ digits_within (suc j) n
    by (yes s) ih = within-one k n s ∙ sym (within-one j n s)
    by (no s) ih =
        within_more k n (omega arith)
        ∙ (ap (λ (l : List ℕ). l ++ ((48 + n % 10) ∷ [])) (ih (omega arith) (omega arith)) ∙ sym (within_more j n (omega arith)))

pub digits-one : (v : ℕ) → v < 10 → digits_of v ≡ (48 + v) ∷ []
unfolding digits_of
digits-one v h = within-one v v h

pub digits_last : (n : ℕ) → 10 ≤ n → digits_of n ≡ digits_of (n / 10) ++ ((48 + n % 10) ∷ [])
unfolding digits_of
digits_last n h =
    within_more n n h ∙ ap (λ (l : List ℕ). l ++ ((48 + n % 10) ∷ [])) (within-enough n (suc (n / 10)) (n / 10) (omega arith) (omega arith))

pub digits-two : (v : ℕ) → 10 ≤ v → v < 100 → digits_of v ≡ (48 + v / 10) ∷ (48 + v % 10) ∷ []
digits-two v l h = digits_last v l ∙ ap (λ (x : List ℕ). x ++ ((48 + v % 10) ∷ [])) (digits-one (v / 10) (omega arith))

pub digits-three : (v : ℕ) → 100 ≤ v → v < 1000 → digits_of v ≡ (48 + v / 100) ∷ (48 + v / 10 % 10) ∷ (48 + v % 10) ∷ []
digits-three v l h =
    digits_last v (omega arith)
    ∙ ap (λ (x : List ℕ). x ++ ((48 + v % 10) ∷ [])) (digits-two (v / 10) (omega arith) (omega arith) ∙ ap (λ (d : ℕ). (48 + d) ∷ (48 + v / 10 % 10) ∷ []) hundreds)
  where
    hundreds : v / 10 / 10 ≡ v / 100
    hundreds = omega arith

-- one digit more than n / 10 has
pub length_last : (n : ℕ) → 10 ≤ n → length (digits_of n) ≡ length (digits_of (n / 10)) + 1
length_last n h = ap length (digits_last n h) ∙ length-append (digits_of (n / 10)) ((48 + n % 10) ∷ [])

pub length-one : (n : ℕ) → n < 10 → length (digits_of n) ≡ 1
length-one n h = ap length (digits-one n h)

pub length-field : (n e : ℕ) → length (field n e) ≡ length (digits_of n) + 1
length-field n e = length-append (digits_of n) (e ∷ [])

pub digits-some : (n : ℕ) → 1 ≤ length (digits_of n)
digits-some n = by (dec_lt n 10)
  where
    by : Dec (n < 10) → 1 ≤ length (digits_of n)
    by (yes h) = omega (arith, length-one n h)
    by (no h) = omega (arith, length_last n (omega arith))

pub field-some : (n e : ℕ) → 2 ≤ length (field n e)
field-some n e = omega (arith, length-field n e, digits-some n)

pub field-more : (n e : ℕ) → 10 ≤ n → 3 ≤ length (field n e)
field-more n e h = omega (arith, length-field n e, length_last n h, digits-some (n / 10))

-- k + 1 digits hold a number below that power of ten
at_most : (k n : ℕ) → n < 10 ^ suc k → length (digits_of n) ≤ suc k
at_most zero n h = omega (arith, length-one n (omega arith))
at_most (suc k) n h = by (dec_lt n 10) (at_most k (n / 10))
  where
    by : Dec (n < 10) → (n / 10 < 10 ^ suc k → length (digits_of (n / 10)) ≤ suc k) → length (digits_of n) ≤ suc (suc k)
    by (yes s) ih = omega (arith, length-one n s)
    by (no s) ih =
        let top : n / 10 < 10 ^ suc k = (div-lt_iff_lt-mul {k = 10} (omega arith)).1 (omega (arith, pow-suc 10 (suc k))) in omega (arith, length_last n (omega arith), ih top)

pub digits-few : (n : ℕ) → n < 18446744073709551616 → length (digits_of n) ≤ 20
digits-few n h = at_most 19 n (omega arith)

pub length_digits : (v : ℕ) → v < 1000 → length (digits_of v) ≤ 3
length_digits v h = at_most 2 v (omega arith)
