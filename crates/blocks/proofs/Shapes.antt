-- What numbers that fit the format of a sheet's text are: a sheet's. Assumes nothing.
use Rattle.slices.specs.declared.Reason.TheVariants.{NextState}
use mathlib.Core.Path.{◌≡◌, refl, ap, ap₂, sym, subst, ◌∙◌}
use mathlib.Core.Bool.{Bool, true, false, cond}
use mathlib.Core.List.{List, [], ◌∷◌, ◌++◌}
use Prim.Native.Nat.{ℕ, zero, suc, ◌+◌, ◌*◌, ◌≤◌, ◌<◌}
use native.Mathlib.Omega.{arith}
use native.Mathlib.Nat.{add-mul}
use lib.Dec.{eqb}
use lib.ListN.{length, get_or, length-append}
use lib.Seq.{ext_get_or}
use borrow.Author.Tests.{ne_eqb}
use Rattle.slices.specs.Tables.{rows, sum}
use Rattle.slices.proofs.Tables.{get_or-first, get_or-second, get_d_rows, rows_same, length-rows, sum_same, sum-even, row-end}
use Rattle.format.specs.declared.Column.{Column}
use Rattle.format.specs.Format.{Takes, Fits, each}
use Rattle.format.specs.Rows.{separator, column_of, row, below}
use Rattle.format.proofs.Sequences.{Split, split}
use Rattle.format.proofs.Fixed.{Fixed, fixed-literal, fixed-seq, then-was}
use Rattle.format.proofs.Rows.{Rows, rows-was, RowFits, row-was}
use Rattle.blocks.proofs.Measures.{sum-times}
use Rattle.blocks.specs.Text.{names, counts_title, leading_title, progress_title, head, counts_row_of, leading_row_of, progress_row_of, counts_format, leading_format, part_format, level_in, letters_in, states_in, leading_in, size_in, parts_format}
use Rattle.blocks.specs.Numbers.{progress_in}
use Rattle.blocks.specs.Values.{front_format, Readable, Whole}

pub fixed-head : (title : List ℕ) (s : ℕ) → Fixed (head title s) ((title ++ names s) ++ (10 ∷ []))
fixed-head title s = fixed-seq (fixed-seq (fixed-literal title) (fixed-literal (names s))) (fixed-literal (10 ∷ []))

-- the columns of the next states
pub leading-column : (s n q i : ℕ) → 2 ≤ i → column_of (leading_row_of s n q) i ≡ below n NextState
leading-column s n q i h =
    let a : i ≡ 0 → ⊥ = λ e. omega arith in
    let b : i ≡ 1 → ⊥ = λ e. omega arith in
    rw (ne_eqb i 0 a, ne_eqb i 1 b) (by (eqb i 2))
  where
    by : (t : Bool) → cond t (below n NextState) (below n NextState) ≡ below n NextState
    by true = refl
    by false = refl

pub progress-column : (s q k p i : ℕ) → 3 ≤ i → column_of (progress_row_of s q k p) i ≡ below k NextState
progress-column s q k p i h =
    let a : i ≡ 0 → ⊥ = λ e. omega arith in
    let b : i ≡ 1 → ⊥ = λ e. omega arith in
    let c : i ≡ 2 → ⊥ = λ e. omega arith in
    rw (ne_eqb i 0 a, ne_eqb i 1 b, ne_eqb i 2 c)

-- the three counts
pub record Counts (c : List ℕ) : Type 0 where
  pub three : length c ≡ 3
  pub low_level : 3 ≤ get_or c 0 0
  pub high_level : get_or c 0 0 < 5
  pub some_letters : 1 ≤ get_or c 1 0
  pub few_letters : get_or c 1 0 ≤ 32
  pub some_states : 1 ≤ get_or c 2 0
  pub few_states : get_or c 2 0 ≤ 32

pub counts-was : (c : List ℕ) → Fits counts_format c → Counts c
counts-was c h =
    let r = row-was counts_row_of c (then-was (fixed-literal counts_title) (λ vs. row counts_row_of) c h) in
    let a = r.takes 0 (omega arith) in
    let b = r.takes 1 (omega arith) in
    let d = r.takes 2 (omega arith) in
    record {
      three = r.count;
      low_level = a.low;
      high_level = a.high;
      some_letters = b.low;
      few_letters = omega (arith, b.high);
      some_states = d.low;
      few_states = omega (arith, d.high);
    }

-- rows of one length: an entry
pub even-rows : (m w : ℕ) (f : ℕ → List ℕ) → ((q : ℕ) → q < m → length (f q) ≡ w) → length (rows m f) ≡ m * w
even-rows m w f e = length-rows m f ∙ (sum_same m (λ q. length (f q)) (λ q. w) e ∙ sum-even m w)

pub even-entry : (m w : ℕ) (f : ℕ → List ℕ) → ((q : ℕ) → q < m → length (f q) ≡ w) → (q i : ℕ) → q < m → i < w → get_or (rows m f) (q * w + i) 0 ≡ get_or (f q) i 0
even-entry m w f e q i h l =
    ap (λ (k : ℕ). get_or (rows m f) (k + i) 0) (sym (sum_same q (λ r. length (f r)) (λ r. w) (λ r k. e r (omega arith)) ∙ sum-even q w))
    ∙ get_d_rows m f q i h (subst (λ (k : ℕ). i < k) (sym (e q h)) l)

-- the leading rows
module _ (s n : ℕ) (l : List ℕ) (h : Fits (each n (λ q. row (leading_row_of s n q))) l) where
  leading-rows : Rows n (λ q. row (leading_row_of s n q)) l
  leading-rows = rows-was n (λ q. row (leading_row_of s n q)) l h

  leading-row : (q : ℕ) → q < n → RowFits (leading_row_of s n q) (leading-rows.part q)
  leading-row q k = row-was (leading_row_of s n q) (leading-rows.part q) (leading-rows.fits q k)

  pub leading-long : length l ≡ n * (s + 2)
  leading-long = ap length leading-rows.whole ∙ even-rows n (s + 2) leading-rows.part (λ q k. (leading-row q k).count)

  leading-entry : (q i : ℕ) → q < n → i < s + 2 → get_or l (q * (s + 2) + i) 0 ≡ get_or (leading-rows.part q) i 0
  leading-entry q i k m = ap (λ (x : List ℕ). get_or x (q * (s + 2) + i) 0) leading-rows.whole ∙ even-entry n (s + 2) leading-rows.part (λ r j. (leading-row r j).count) q i k m

  leading-takes : (q i : ℕ) → q < n → i < s + 2 → Takes (column_of (leading_row_of s n q) i) (separator (s + 2) i) (get_or l (q * (s + 2) + i) 0)
  leading-takes q i k m =
      subst (Takes (column_of (leading_row_of s n q) i) (separator (s + 2) i)) (sym (leading-entry q i k m)) ((leading-row q k).takes i m)

  -- the rows are those whose entries stand there
  pub leading-is : (v : ℕ → List ℕ) → ((q : ℕ) → q < n → length (v q) ≡ s + 2) → ((q i : ℕ) → q < n → i < s + 2 → get_or l (q * (s + 2) + i) 0 ≡ get_or (v q) i 0) → l ≡ rows n v
  leading-is v long e =
      leading-rows.whole
      ∙ rows_same n leading-rows.part v
      (λ q k. ext_get_or 0 (leading-rows.part q) (v q) ((leading-row q k).count ∙ sym (long q k)) (λ i m. sym (leading-entry q i k (omega (arith, (leading-row q k).count))) ∙ e q i k (omega (arith, (leading-row q k).count))))

-- The numbers of the front.
pub record FrontFits (front : List ℕ) : Type 0 where
  pub low_level : 3 ≤ level_in front
  pub high_level : level_in front < 5
  pub some_letters : 1 ≤ letters_in front
  pub few_letters : letters_in front ≤ 32
  pub some_states : 1 ≤ states_in front
  pub few_states : states_in front ≤ 32
  pub long : length front ≡ 3 + states_in front * (letters_in front + 2)
  pub turns : (q : ℕ) → q < states_in front → leading_in front q 0 ≡ q
  pub some_size : (q : ℕ) → q < states_in front → 1 ≤ size_in front q
  pub few_size : (q : ℕ) → q < states_in front → size_in front q ≤ 32
  pub steps : (q a : ℕ) → q < states_in front → a < letters_in front → leading_in front q (2 + a) < states_in front

module _ (front : List ℕ) (h : Fits front_format front) where
  w : Split counts_format (λ c. leading_format (get_or c 1 0) (get_or c 2 0)) front
  unfolding front_format
  w = split counts_format (λ c. leading_format (get_or c 1 0) (get_or c 2 0)) front h

  counts : Counts w.left
  counts = counts-was w.left w.first

  count : (i : ℕ) → i < 3 → get_or front i 0 ≡ get_or w.left i 0
  count i l = ap (λ (x : List ℕ). get_or x i 0) w.whole ∙ get_or-first w.left w.right i (omega (arith, counts.three))

  level : level_in front ≡ get_or w.left 0 0
  level = count 0 (omega arith)

  abbrev s : ℕ
  s = letters_in front

  abbrev n : ℕ
  n = states_in front

  letters : s ≡ get_or w.left 1 0
  letters = count 1 (omega arith)

  states : n ≡ get_or w.left 2 0
  states = count 2 (omega arith)

  rest : Fits (each n (λ q. row (leading_row_of s n q))) w.right
  rest =
      then-was (fixed-head leading_title s) (λ vs. each n (λ q. row (leading_row_of s n q))) w.right
      (subst (λ (x : ℕ). Fits (leading_format x n) w.right) (sym letters) (subst (λ (y : ℕ). Fits (leading_format (get_or w.left 1 0) y) w.right) (sym states) w.second))

  behind : (k : ℕ) → get_or front (3 + k) 0 ≡ get_or w.right k 0
  behind k = ap (λ (x : List ℕ). get_or x (3 + k) 0) w.whole ∙ get_or-second w.left w.right 3 k counts.three

  takes : (q i : ℕ) → q < n → i < s + 2 → Takes (column_of (leading_row_of s n q) i) (separator (s + 2) i) (leading_in front q i)
  takes q i k m = subst (Takes (column_of (leading_row_of s n q) i) (separator (s + 2) i)) (sym (behind (q * (s + 2) + i))) (leading-takes s n w.right rest q i k m)

  pub front-was : FrontFits front
  front-was = record {
    low_level = omega (arith, level, counts.low_level);
    high_level = omega (arith, level, counts.high_level);
    some_letters = omega (arith, letters, counts.some_letters);
    few_letters = omega (arith, letters, counts.few_letters);
    some_states = omega (arith, states, counts.some_states);
    few_states = omega (arith, states, counts.few_states);
    long = ap length w.whole ∙ (length-append w.left w.right ∙ omega (arith, counts.three, leading-long s n w.right rest));
    turns = λ q k. let t = takes q 0 k (omega arith) in omega (arith, t.low, t.high);
    some_size = λ q k. (takes q 1 k (omega arith)).low;
    few_size = λ q k. let t : size_in front q < 33 = (takes q 1 k (omega arith)).high in omega arith;
    steps = λ q a k m. subst (λ (c : Column). leading_in front q (2 + a) < c.limit) (leading-column s n q (2 + a) (omega arith)) (takes q (2 + a) k (omega arith)).high;
  }

  -- they are the counts and the rows whose entries stand there
  pub front-are : (v : ℕ → List ℕ) → ((q : ℕ) → q < n → length (v q) ≡ s + 2) → ((q i : ℕ) → q < n → i < s + 2 → leading_in front q i ≡ get_or (v q) i 0) → front ≡ (level_in front ∷ s ∷ n ∷ []) ++ rows n v
  front-are v long e = w.whole ∙ ap₂ (λ (x y : List ℕ). x ++ y) left (leading-is s n w.right rest v long (λ q i k m. sym (behind (q * (s + 2) + i)) ∙ e q i k m))
    where
      by : (i : ℕ) → i < 3 → get_or w.left i 0 ≡ get_or (level_in front ∷ s ∷ n ∷ []) i 0
      by zero l = sym level
      by (suc zero) l = sym letters
      by (suc (suc zero)) l = sym states
      by (suc (suc (suc i))) l = absurd (omega arith)

      left : w.left ≡ level_in front ∷ s ∷ n ∷ []
      left = ext_get_or 0 w.left (level_in front ∷ s ∷ n ∷ []) counts.three (λ i l. by i (omega (arith, counts.three)))

-- rows of rows of one length: an entry of a row
pub nested-entry : (n w : ℕ) (size : ℕ → ℕ) (g : ℕ → List ℕ) → ((q : ℕ) → q < n → length (g q) ≡ size q * w) → (q p i : ℕ) → q < n → p < size q → i < w
    → get_or (rows n g) ((sum q size + p) * w + i) 0 ≡ get_or (g q) (p * w + i) 0
nested-entry n w size g long q p i k j m = ap (λ (x : ℕ). get_or (rows n g) x 0) place ∙ get_d_rows n g q (p * w + i) k within
  where
    begins : sum q (λ r. length (g r)) ≡ sum q size * w
    begins = sum_same q (λ r. length (g r)) (λ r. size r * w) (λ r l. long r (omega arith)) ∙ sum-times q size w

    place : (sum q size + p) * w + i ≡ sum q (λ r. length (g r)) + (p * w + i)
    place = omega (arith, begins, add-mul (sum q size) p w)

    within : p * w + i < length (g q)
    within = omega (arith, long q k, row-end p (size q) w j)

-- the progress rows
module _ (s n : ℕ) (size : ℕ → ℕ) (vs : List ℕ) (h : Fits (each n (λ q. part_format s (size q) q)) vs) where
  parts : Rows n (λ q. part_format s (size q) q) vs
  parts = rows-was n (λ q. part_format s (size q) q) vs h

  part-rows : (q : ℕ) → q < n → Rows (size q) (λ p. row (progress_row_of s q (size q) p)) (parts.part q)
  part-rows q k = rows-was (size q) (λ p. row (progress_row_of s q (size q) p)) (parts.part q) (parts.fits q k)

  part-row : (q p : ℕ) (k : q < n) → p < size q → RowFits (progress_row_of s q (size q) p) ((part-rows q k).part p)
  part-row q p k j = row-was (progress_row_of s q (size q) p) ((part-rows q k).part p) ((part-rows q k).fits p j)

  part-long : (q : ℕ) → q < n → length (parts.part q) ≡ size q * (s + 3)
  part-long q k = ap length (part-rows q k).whole ∙ even-rows (size q) (s + 3) (part-rows q k).part (λ p j. (part-row q p k j).count)

  pub parts-long : length vs ≡ sum n size * (s + 3)
  parts-long =
      ap length parts.whole
      ∙ (length-rows n parts.part ∙ (sum_same n (λ q. length (parts.part q)) (λ q. size q * (s + 3)) part-long ∙ sum-times n size (s + 3)))

  part-entry : (q p i : ℕ) (k : q < n) → p < size q → i < s + 3 → get_or vs ((sum q size + p) * (s + 3) + i) 0 ≡ get_or ((part-rows q k).part p) i 0
  part-entry q p i k j m =
      ap (λ (x : List ℕ). get_or x ((sum q size + p) * (s + 3) + i) 0) parts.whole
      ∙ (nested-entry n (s + 3) size parts.part part-long q p i k j m
      ∙ (ap (λ (x : List ℕ). get_or x (p * (s + 3) + i) 0) (part-rows q k).whole ∙ even-entry (size q) (s + 3) (part-rows q k).part (λ r l. (part-row q r k l).count) p i j m))

  pub parts-take : (q p i : ℕ) → q < n → p < size q → i < s + 3 → Takes (column_of (progress_row_of s q (size q) p) i) (separator (s + 3) i) (get_or vs ((sum q size + p) * (s + 3) + i) 0)
  parts-take q p i k j m = subst (Takes (column_of (progress_row_of s q (size q) p) i) (separator (s + 3) i)) (sym (part-entry q p i k j m)) ((part-row q p k j).takes i m)

  pub parts_are : (v : ℕ → ℕ → List ℕ) → ((q p : ℕ) → q < n → p < size q → length (v q p) ≡ s + 3)
      → ((q p i : ℕ) → q < n → p < size q → i < s + 3 → get_or vs ((sum q size + p) * (s + 3) + i) 0 ≡ get_or (v q p) i 0) → vs ≡ rows n (λ q. rows (size q) (v q))
  parts_are v long e =
      parts.whole
      ∙ rows_same n parts.part (λ q. rows (size q) (v q))
      (λ q k. (part-rows q k).whole
      ∙ rows_same (size q) (part-rows q k).part (v q)
      (λ p j. ext_get_or 0 ((part-rows q k).part p) (v q p) ((part-row q p k j).count ∙ sym (long q p k j))
      (λ i m. sym (part-entry q p i k j (omega (arith, (part-row q p k j).count))) ∙ e q p i k j (omega (arith, (part-row q p k j).count)))))

-- numbers that fit are a sheet's
module _ (front parts : List ℕ) (w : Whole front parts) where
  first : FrontFits front
  first = front-was front w.first

  pub rows_fit : Fits (each (states_in front) (λ q. part_format (letters_in front) (size_in front q) q)) parts
  unfolding parts_format
  rows_fit = then-was (fixed-head progress_title (letters_in front)) (λ vs. each (states_in front) (λ q. part_format (letters_in front) (size_in front q) q)) parts w.second

  pub progress-takes : (q p i : ℕ) → q < states_in front → p < size_in front q → i < letters_in front + 3 → Takes (column_of (progress_row_of (letters_in front) q (size_in front q) p) i) (separator (letters_in front + 3) i) (progress_in front parts q p i)
  progress-takes = parts-take (letters_in front) (states_in front) (size_in front) parts rows_fit

  pub whole-readable : Readable front parts
  whole-readable = record {
    packable = record {
      complete = record {
        start = first.some_states;
        leads = first.steps;
        starts = first.some_size;
        progresses = λ q h p a k l. subst (λ (c : Column). progress_in front parts q p (3 + a) < c.limit) (progress-column (letters_in front) q (size_in front q) p (3 + a) (omega arith)) (progress-takes q p (3 + a) h k (omega arith)).high;
      };
      some_letters = first.some_letters;
      few_letters = first.few_letters;
      few_states = first.few_states;
      few_progress = first.few_size;
    };
    marks = λ q p h k. (progress-takes q p 2 h k (omega arith)).high;
    front_length = first.long;
    parts_length = parts-long (letters_in front) (states_in front) (size_in front) parts rows_fit;
  }
