-- How long the packed sheet of a text's numbers is, and how few they are. Assumes nothing.
use mathlib.Core.Path.{◌≡◌, refl, ap, ap₂, ◌∙◌}
use mathlib.Core.List.{List}
use Prim.Native.Nat.{ℕ, zero, suc, ◌+◌, ◌*◌, ◌≤◌, ◌<◌}
use native.Mathlib.Omega.{arith}
use native.Mathlib.Numerals.{add-one}
use native.Mathlib.Nat.{mul-le-mul, add-mul, le_refl}
use lib.ListN.{length, get_or, length-append}
use Rattle.slices.specs.Tables.{rows, sum}
use Rattle.packed.specs.Layout.{front_bytes, part_bytes, pack}
use Rattle.slices.proofs.Tables.{length-rows, sum_same, sum-le, row-end}
use Rattle.packed.proofs.Bounds.{few-both}
use Rattle.packed.proofs.Packing.{length_front, length_part}
use Rattle.blocks.specs.Text.{letters_in, states_in, size_in}
use Rattle.blocks.specs.Numbers.{family_of}
use Rattle.blocks.specs.Values.{Readable}

pub sum-next : (f : ℕ → ℕ) (q : ℕ) → sum (q + 1) f ≡ sum q f + f q
unfolding sum
sum-next f q = ap (λ (k : ℕ). sum k f) (add-one q)

pub sum-none : (f : ℕ → ℕ) → sum 0 f ≡ 0
unfolding sum
sum-none f = refl

-- a factor of all
pub sum-times : (m : ℕ) (f : ℕ → ℕ) (c : ℕ) → sum m (λ q. f q * c) ≡ sum m f * c
unfolding sum
sum-times zero f c = omega arith
sum-times (suc m) f c = omega (arith, sum-times m f c, add-mul (sum m f) (f m) c)

-- at most 32 numbers that are at most 32
pub sum-few : (m : ℕ) (f : ℕ → ℕ) → m ≤ 32 → ((q : ℕ) → q < m → f q ≤ 32) → sum m f ≤ 1024
sum-few m f h l = omega (arith, sum-le m f 32 l, mul-le-mul h (le_refl 32))

-- where the code reads the size of q
module _ (front : List ℕ) (s : ℕ) where
  pub size-read : (q : ℕ) → s ≡ letters_in front → get_or front (3 + q * (s + 2) + 1) 0 ≡ size_in front q
  size-read q es =
      let e : 3 + q * (letters_in front + 2) + 1 ≡ 3 + (q * (letters_in front + 2) + 1) = omega arith in
      (λ i. get_or front (3 + q * (es i + 2) + 1) 0) ∙ ap (λ (k : ℕ). get_or front k 0) e

  pub size-place : (q n : ℕ) → q < n → n ≤ 32 → s ≤ 32 → 3 + n * (s + 2) ≤ length front → (q * (s + 2) ≤ 1088) × (3 + q * (s + 2) + 1 < length front)
  size-place q n h l m w =
      let a : q ≤ 32 = omega arith in
      let b : s + 2 ≤ 34 = omega arith in
      (mul-le-mul a b, omega (arith, row-end q n (s + 2) h))

module _ (front parts : List ℕ) where
  pub bytes-split : length (pack (family_of front parts)) ≡ length (front_bytes (family_of front parts)) + length (rows (states_in front) (part_bytes (family_of front parts)))
  bytes-split = length-append (front_bytes (family_of front parts)) (rows (states_in front) (part_bytes (family_of front parts)))

  pub bytes-length : length (pack (family_of front parts)) ≡ 2 + states_in front + states_in front * letters_in front + sum (states_in front) (size_in front) * (letters_in front + 1)
  bytes-length =
      bytes-split
      ∙ ap₂ (λ (x y : ℕ). x + y) (length_front (family_of front parts))
      (length-rows (states_in front) (part_bytes (family_of front parts))
      ∙ (sum_same (states_in front) (λ q. length (part_bytes (family_of front parts) q)) (λ q. size_in front q * (letters_in front + 1)) (λ q h. length_part (family_of front parts) q) ∙ sum-times (states_in front) (size_in front) (letters_in front + 1)))

  module _ (w : Readable front parts) where
    pub front-few : (s n : ℕ) → s ≡ letters_in front → n ≡ states_in front → (s ≤ 32) × (n ≤ 32) × (n * s ≤ 1024)
    front-few s n es en =
        let a : s ≤ 32 = omega (arith, w.packable.few_letters) in
        let b : n ≤ 32 = omega (arith, w.packable.few_states) in
        (a, b, few-both b a)

    -- the rows of the progress automata before q
    pub rows_few : (q : ℕ) → q ≤ states_in front → sum q (size_in front) ≤ 1024
    rows_few q h =
        sum-few q (size_in front) (omega (arith, w.packable.few_states)) (λ r l. w.packable.few_progress r (omega arith))
