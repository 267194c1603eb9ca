-- The numbers of a text, gathered in the order of the packed sheet. Assumes nothing.
use mathlib.Core.Path.{◌≡◌, refl, ap, ap₂, sym, ◌∙◌}
use mathlib.Core.List.{List, [], ◌∷◌, ◌++◌}
use Prim.Native.Nat.{ℕ, ◌+◌, ◌*◌, ◌-◌, ◌≤◌, ◌<◌}
use native.Mathlib.Omega.{arith}
use native.Mathlib.Nat.{mul-le-mul, mul-le-mul_right, add-mul}
use lib.ListN.{length, get_or, set, length-set}
use Rattle.slices.specs.Tables.{tab, sum, table}
use Rattle.slices.proofs.Tables.{tab-same, rows_same, sum-rises, row-end}
use Rattle.packed.specs.Layout.{mark, front_bytes, part_bytes}
use Rattle.packed.proofs.Packing.{length_front, length_part, mark-byte}
use Rattle.numbers.specs.Storing.{Stored}
use Rattle.blocks.specs.Text.{letters_in, states_in, size_in}
use Rattle.blocks.specs.Numbers.{progress_in, family_of}
use Rattle.blocks.specs.Values.{Readable}
use Rattle.blocks.proofs.Measures.{sum-next, size-read, rows_few}

table_same : (k s : ℕ) (f g : ℕ → ℕ → ℕ) → ((q a : ℕ) → q < k → a < s → f q a ≡ g q a) → table k s f ≡ table k s g
table_same k s f g h = rows_same k (λ q. tab s (f q)) (λ q. tab s (g q)) (λ q l. tab-same s (f q) (g q) (λ a m. h q a l m))

-- row q of a table whose rows have s numbers after `head` of them, from where its own begin
module _ (values : List ℕ) (at head s q p : ℕ) (e : p ≡ at + (q * (s + head) + head)) where
  pub row-entry : (a : ℕ) → get_or values (p + a * 1) 0 ≡ get_or values (at + (q * (s + head) + (head + a))) 0
  row-entry a = let d : p + a * 1 ≡ at + (q * (s + head) + (head + a)) = omega arith in ap (λ (k : ℕ). get_or values k 0) d

  pub row_within : (k a : ℕ) → q < k → a < s → at + k * (s + head) ≤ length values → p + a * 1 < length values
  row_within k a h l w = omega (arith, row-end q k (s + head) h)

  pub row_low : at ≤ 40000 → q ≤ 32 → s ≤ 32 → head ≤ 3 → p ≤ 41123
  row_low h l m o = let n : s + head ≤ 35 = omega arith in omega (arith, mul-le-mul l n)

-- column j of a table whose rows have w numbers
module _ (values : List ℕ) (at j w : ℕ) where
  pub column-entry : (q : ℕ) → get_or values (at + j + q * w) 0 ≡ get_or values (at + (q * w + j)) 0
  column-entry q = let d : at + j + q * w ≡ at + (q * w + j) = omega arith in ap (λ (k : ℕ). get_or values k 0) d

  pub column-within : (k q : ℕ) → q < k → j < w → at + k * w ≤ length values → at + j + q * w < length values
  column-within k q h l m = omega (arith, row-end q k w h)

over : (c p w x : ℕ) → c * w + (p * w + x) ≡ (c + p) * w + x
over c p w x = omega (arith, add-mul c p w)

-- What the code may use of the part of q, whose k rows of s + 3 numbers begin at `at`.
pub record Body (front parts : List ℕ) (q k at s : ℕ) : Type 0 where
  pub few : k ≤ 32
  pub product : k * (s + 3) ≤ 1120
  pub low : at ≤ 35840
  pub within : at + k * (s + 3) ≤ length parts
  pub next : at + k * (s + 3) ≡ sum (q + 1) (size_in front) * (letters_in front + 3)
  pub steps : (p a : ℕ) → p < k → a < s → get_or parts (at + (p * (s + 3) + (3 + a))) 0 < 256
  pub marks : (p : ℕ) → p < k → get_or parts (at + (p * (s + 3) + 2)) 0 < 256
  pub size : k * (s + 1) ≡ length (part_bytes (family_of front parts) q)
  pub bytes : table k s (λ p a. get_or parts (at + (p * (s + 3) + (3 + a))) 0) ++ tab k (λ p. get_or parts (at + (p * (s + 3) + 2)) 0) ≡ part_bytes (family_of front parts) q

pub first_part : (f : ℕ → ℕ) (w : ℕ) → 0 ≡ sum 0 f * w
unfolding sum
first_part f w = omega arith

module _ (front parts : List ℕ) (r : Readable front parts) (s : ℕ) (es : s ≡ letters_in front) where
  pub body : (q k at : ℕ) → q < states_in front → k ≡ size_in front q → at ≡ sum q (size_in front) * (letters_in front + 3) → Body front parts q k at s
  body q k at h ek ea = record {
    few = size_few;
    product = mul-le-mul size_few width;
    low = omega (arith, ea, mul-le-mul (rows_few front parts r q (omega arith)) r.packable.few_letters, rows_few front parts r q (omega arith));
    within = omega (arith, after, r.parts_length, mul-le-mul_right (letters_in front + 3) upto);
    next = after;
    steps = λ p a l m. omega (arith, entry p (3 + a), r.packable.complete.progresses q h p a (omega arith) (omega arith), size_few);
    marks = λ p l. omega (arith, entry p 2, r.marks q p h (omega arith));
    size = (λ i. ek i * (es i + 1)) ∙ sym (length_part (family_of front parts) q);
    bytes = ap₂ (λ (x y : List ℕ). x ++ y)
        (table_same k s (λ p a. get_or parts (at + (p * (s + 3) + (3 + a))) 0) ((family_of front parts).progress q) (λ p a l n. entry p (3 + a)))
        (tab-same k (λ p. get_or parts (at + (p * (s + 3) + 2)) 0) (λ p. mark ((family_of front parts).accepting q p)) (λ p l. entry p 2 ∙ sym (mark-byte (progress_in front parts q p 2) (r.marks q p h (omega arith)))))
        ∙ (λ i. table (ek i) (es i) ((family_of front parts).progress q) ++ tab (ek i) (λ p. mark ((family_of front parts).accepting q p)));
  }
    where
      size_few : k ≤ 32
      size_few = omega (arith, r.packable.few_progress q h)

      width : s + 3 ≤ 35
      width = omega (arith, r.packable.few_letters)

      entry : (p i : ℕ) → get_or parts (at + (p * (s + 3) + i)) 0 ≡ progress_in front parts q p i
      entry p i =
          (λ j. get_or parts (ea j + (p * (es j + 3) + i)) 0)
          ∙ ap (λ (x : ℕ). get_or parts x 0) (over (sum q (size_in front)) p (letters_in front + 3) i)

      after : at + k * (s + 3) ≡ sum (q + 1) (size_in front) * (letters_in front + 3)
      after =
          (λ i. ea i + ek i * (es i + 3))
          ∙ (sym (add-mul (sum q (size_in front)) (size_in front q) (letters_in front + 3)) ∙ ap (λ (m : ℕ). m * (letters_in front + 3)) (sym (sum-next (size_in front) q)))

      some : 0 < size_in front q
      some = r.packable.complete.starts q h

      upto : sum (q + 1) (size_in front) ≤ sum (states_in front) (size_in front)
      upto =
          omega (arith, sum-next (size_in front) q, sum-rises (states_in front) (size_in front) q (size_in front q - 1) h (omega (arith, some)), some)

  -- the counts and the leading table
  module _ (n : ℕ) (en : n ≡ states_in front) where
    size-entry : (q : ℕ) → get_or front (4 + q * (s + 2)) 0 ≡ size_in front q
    size-entry q =
        let e : 4 + q * (s + 2) ≡ 3 + q * (s + 2) + 1 = omega arith in ap (λ (k : ℕ). get_or front k 0) e ∙ size-read front s q es

    step-entry : (q a : ℕ) → get_or front (3 + (q * (s + 2) + (2 + a))) 0 ≡ (family_of front parts).step q a
    step-entry q a = λ i. get_or front (3 + (q * (es i + 2) + (2 + a))) 0

    pub front-within : 3 + n * (s + 2) ≡ length front
    front-within = (λ i. 3 + en i * (es i + 2)) ∙ sym r.front_length

    pub sizes-few : (q : ℕ) → q < n → (4 + q * (s + 2) < length front) × (get_or front (4 + q * (s + 2)) 0 < 256)
    sizes-few q l = (
      column-within front 3 1 (s + 2) n q l (omega arith) (omega (arith, front-within)),
      omega (arith, size-entry q, r.packable.few_progress q (omega arith)),
    )

    pub steps-few : (q a : ℕ) → q < n → a < s → get_or front (3 + (q * (s + 2) + (2 + a))) 0 < 256
    steps-few q a l m = omega (arith, step-entry q a, r.packable.complete.leads q a (omega arith) (omega arith), r.packable.few_states)

    pub front-size : 2 + n + n * s ≡ length (front_bytes (family_of front parts))
    front-size = (λ i. 2 + en i + en i * es i) ∙ sym (length_front (family_of front parts))

    pub front-is : (s ∷ n ∷ []) ++ tab n (λ q. get_or front (4 + q * (s + 2)) 0) ++ table n s (λ q a. get_or front (3 + (q * (s + 2) + (2 + a))) 0) ≡ front_bytes (family_of front parts)
    front-is =
        ap₂ (λ (x y : List ℕ). (s ∷ n ∷ []) ++ x ++ y)
        (tab-same n (λ q. get_or front (4 + q * (s + 2)) 0) (size_in front) (λ q l. size-entry q))
        (table_same n s (λ q a. get_or front (3 + (q * (s + 2) + (2 + a))) 0) (family_of front parts).step (λ q a l m. step-entry q a))
        ∙ (λ i. (es i ∷ en i ∷ []) ++ tab (en i) (size_in front) ++ table (en i) (es i) (family_of front parts).step)

-- the first two cells
pub pair-stored : (old : List ℕ) {a b s n : ℕ} → a ≡ s → b ≡ n → Stored old 0 (s ∷ n ∷ []) (set (set old 0 a) 1 b) 2
pair-stored old ea eb = record { cells = λ i. set (set old 0 (ea i)) 1 (eb i); next = refl }

pub pair-length : (old : List ℕ) (a b : ℕ) → length (set (set old 0 a) 1 b) ≡ length old
pair-length old a b = length-set (set old 0 a) 1 b ∙ length-set old 0 a
