-- Where the tables of a sheet lie: each part after the one before it, none past 34,850. Assumes nothing.
use mathlib.Core.Path.{◌≡◌, ap, sym, ◌∙◌}
use mathlib.Core.List.{List}
use Prim.Native.Nat.{ℕ, zero, suc, ◌+◌, ◌*◌, ◌-◌, ◌≤◌, ◌<◌}
use native.Mathlib.Omega.{arith}
use native.Mathlib.Nat.{mul-le-mul, mul-one, mul-add, le_refl}
use native.Mathlib.Numerals.{add-one}
use lib.ListN.{length}
use Rattle.slices.specs.Tables.{sum}
use Rattle.slices.proofs.Tables.{sum-le}
use Rattle.packed.specs.Layout.{letter_count, state_count, size_of, leading_at, progress_at_value, marks_at, sheet_length, Header}

-- a product of two counts
pub few-both : {a b : ℕ} → a ≤ 32 → b ≤ 32 → a * b ≤ 1024
few-both p q = mul-le-mul p q

pub part-few : {k s : ℕ} → k ≤ 32 → s ≤ 32 → k * (s + 1) ≤ 1056
part-few {k} {s} p q = omega (arith, mul-add k s 1, few-both p q, mul-one k)

-- the counts, by what the code has in its hands
pub head_few : (b : List ℕ) (n s : ℕ) → Header b → n ≡ state_count b → s ≡ letter_count b → (n ≤ 32) × (n * s ≤ 1024)
head_few b n s h e d = (omega (arith, h.few_states), few-both (omega (arith, h.few_states)) (omega (arith, h.few_letters)))

-- the part of q is followed by that of q + 1
pub progress-next : (b : List ℕ) (q : ℕ) → progress_at_value b q + size_of b q * (letter_count b + 1) ≡ progress_at_value b (q + 1)
unfolding progress_at_value sum
progress-next b q = rw (add-one q) (omega arith)

marks-next : (b : List ℕ) (q : ℕ) → marks_at b q + size_of b q ≡ progress_at_value b (q + 1)
marks-next b q =
    omega (arith, progress-next b q, mul-add (size_of b q) (letter_count b) 1, mul-one (size_of b q))

pub progress-first : (b : List ℕ) → progress_at_value b 0 ≡ leading_at b + state_count b * letter_count b
unfolding progress_at_value sum
progress-first b = omega arith

-- the counts and the leading table
module _ (b : List ℕ) {n s : ℕ} (count : n ≡ state_count b) (letters : s ≡ letter_count b) where
  pub front-few : Header b → (n ≤ 32) × (n * s ≤ 1024)
  front-few h = (omega (arith, h.few_states), few-both (omega (arith, h.few_states)) (omega (arith, h.few_letters)))

  pub front-end : 2 + n + n * s ≡ progress_at_value b 0
  front-end = (λ i. 2 + count i + count i * letters i) ∙ sym (progress-first b)

module _ (b : List ℕ) (header : Header b) where
  pub progress-few : (q : ℕ) → q ≤ state_count b → progress_at_value b q ≤ 1058 + q * 1056
  unfolding progress_at_value
  progress-few q h =
      omega (
        arith,
        header.few_states,
        few-both header.few_states header.few_letters,
        sum-le q (λ r. size_of b r * (letter_count b + 1)) 1056 (λ r l. part-few (header.few_size r (omega arith)) header.few_letters),
      )

  -- at most 34,850 bytes
  pub sheet-few : sheet_length b ≤ 34850
  sheet-few = omega (arith, progress-few (state_count b) (le_refl (state_count b)), header.few_states)

rises : (b : List ℕ) (q m : ℕ) → progress_at_value b q ≤ progress_at_value b (q + m)
rises b q zero = let e : progress_at_value b q ≡ progress_at_value b (q + 0) = ap (progress_at_value b) (omega arith) in omega arith
rises b q (suc m) =
    let e : progress_at_value b (q + m + 1) ≡ progress_at_value b (q + suc m) = ap (progress_at_value b) (omega arith) in
    omega (arith, rises b q m, progress-next b (q + m))

-- later parts begin later
pub progress-upto : (b : List ℕ) (q r : ℕ) → q ≤ r → progress_at_value b q ≤ progress_at_value b r
progress-upto b q r h =
    let e : progress_at_value b (q + (r - q)) ≡ progress_at_value b r = ap (progress_at_value b) (omega arith) in
    omega (arith, rises b q (r - q))

pub front-within : (b : List ℕ) → Header b → length b ≡ sheet_length b → {n s : ℕ} → n ≡ state_count b → s ≡ letter_count b → (2 + n + n * s ≤ length b) × (length b ≤ 34850)
front-within b h exact count letters =
    (omega (arith, front-end b count letters, progress-upto b 0 (state_count b) (omega arith)), omega (arith, sheet-few b h))

-- The part of leading state q, which begins at `at`: k × s next states, then k marks, all within the bytes.
pub record Body (b : List ℕ) (q at k s : ℕ) : Type 0 where
  pub size : k ≤ 32
  pub table : k * s ≤ 1024
  pub marks : at + k * s ≡ marks_at b q
  pub next : at + k * s + k ≡ progress_at_value b (q + 1)
  pub within : at + k * s + k ≤ length b
  pub low : length b ≤ 34850

pub body : (b : List ℕ) → Header b → length b ≡ sheet_length b → {q at k s : ℕ} → q < state_count b → at ≡ progress_at_value b q → k ≡ size_of b q → s ≡ letter_count b → Body b q at k s
body b h exact {q} {at} {k} {s} less ea ek es = record {
  size = omega (arith, h.few_size q less);
  table = few-both (omega (arith, h.few_size q less)) (omega (arith, h.few_letters));
  marks = m;
  next = x;
  within = omega (arith, progress-upto b (q + 1) (state_count b) (omega arith), x);
  low = omega (arith, sheet-few b h);
}
  where
    m : at + k * s ≡ marks_at b q
    m = λ i. ea i + ek i * es i

    x : at + k * s + k ≡ progress_at_value b (q + 1)
    x = (λ i. m i + ek i) ∙ marks-next b q
