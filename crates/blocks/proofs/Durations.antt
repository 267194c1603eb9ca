-- The block of the seconds: the rows of good cells fit it, and what fits it are the rows of good cells. Assumes nothing.
use mathlib.Core.Path.{◌≡◌, refl, ap, sym, ◌∙◌}
use mathlib.Core.Bool.{Bool, true, false, cond}
use mathlib.Core.List.{List, [], ◌++◌}
use Prim.Native.Nat.{ℕ, zero, suc, ◌+◌, ◌*◌, ◌≤◌, ◌<◌}
use native.Mathlib.Omega.{arith}
use lib.Dec.{eqb}
use lib.ListN.{length, get_or, take}
use lib.Seq.{ext_get_or}
use Rattle.slices.specs.Seconds.{TimesFit}
use Rattle.slices.specs.Tables.{tab, rows}
use Rattle.slices.proofs.Tables.{length-tab, get_or-tab, tab-same, rows_same}
use Rattle.format.specs.Format.{printed, Takes, Fits, each}
use Rattle.format.specs.Rows.{separator, column_of, row}
use Rattle.format.proofs.Sequences.{fits_each, printed-each}
use Rattle.format.proofs.Fixed.{fixed-literal, then-fits, then-was, then-text}
use Rattle.format.proofs.Rows.{Rows, rows-was, RowFits, row-was, within, row_is, printed-row}
use Rattle.blocks.specs.Text.{times_title, seconds_title, timed, seconds_row_of, seconds_format, seconds_values, seconds_of}
use Rattle.blocks.specs.Numbers.{cells_of}
use Rattle.blocks.specs.Lines.{seconds_text}
use Rattle.blocks.proofs.Shapes.{even-rows, even-entry}

-- no more letters have seconds than there are
pub timed-few : (level s : ℕ) → timed level s ≤ s
unfolding timed
timed-few level s = by (eqb level 4)
  where
    by : (t : Bool) → cond t s 0 ≤ s
    by true = omega arith
    by false = omega arith

-- of the title's 14 bytes a level has as many as of other things that only level four has
pub title-taken : (level : ℕ) {n : ℕ} → n ≡ timed level 14 → take n times_title ≡ seconds_title level
unfolding timed seconds_title
title-taken level e = ap (λ (k : ℕ). take k times_title) e ∙ by (eqb level 4)
  where
    by : (t : Bool) → take (cond t 14 0) times_title ≡ cond t times_title []
    by true = refl
    by false = refl

pub title-few : (level : ℕ) → length (seconds_title level) ≤ 14
unfolding seconds_title
title-few level = by (eqb level 4)
  where
    by : (t : Bool) → length (cond t times_title []) ≤ 14
    by true = omega arith
    by false = omega arith

module _ (level s : ℕ) where
  abbrev m : ℕ
  m = timed level s

  -- from cells to rows
  module _ (w : List ℕ) (few : s ≤ 32) (t : TimesFit (timed level s) w) where
    pub second-fit : (a : ℕ) → a < m → RowFits (seconds_row_of a) (seconds_values w a)
    second-fit a h = record { count = refl; takes = by }
      where
        by : (i : ℕ) → i < 2 → Takes (column_of (seconds_row_of a) i) (separator 2 i) (get_or (seconds_values w a) i 0)
        by zero l = within _ 2 0 a (omega arith) (omega arith) (omega (arith, timed-few level s))
        by (suc zero) l = within _ 2 1 (get_or w a 0) (t.good a h).0 (t.good a h).1 (t.good a h).1
        by (suc (suc i)) l = absurd (omega arith)

    second-rows : (a : ℕ) → a < m → Fits (row (seconds_row_of a)) (seconds_values w a)
    second-rows a h = row_is (seconds_row_of a) (seconds_values w a) (second-fit a h)

    pub seconds-fit : Fits (seconds_format level s) (seconds_of level s w)
    unfolding seconds_format seconds_of
    seconds-fit =
        then-fits (fixed-literal (seconds_title level)) (λ vs. each m (λ a. row (seconds_row_of a))) (rows m (seconds_values w))
        (fits_each m (λ a. row (seconds_row_of a)) (seconds_values w) second-rows)

    pub seconds-text : printed (seconds_format level s) (seconds_of level s w) ≡ seconds_text level s w
    unfolding seconds_format seconds_of
    seconds-text =
        then-text (fixed-literal (seconds_title level)) (λ vs. each m (λ a. row (seconds_row_of a))) (rows m (seconds_values w))
        ∙ ap (λ (x : List ℕ). seconds_title level ++ x)
        (printed-each m (λ a. row (seconds_row_of a)) (seconds_values w) second-rows ∙ rows_same m _ _ (λ a h. printed-row (seconds_row_of a) (seconds_values w a) (second-fit a h)))

  -- the cells of their rows
  pub cells-of : (w : List ℕ) → cells_of m (seconds_of level s w) ≡ tab m (λ a. get_or w a 0)
  unfolding seconds_of
  cells-of w = tab-same m (λ a. get_or (seconds_of level s w) (a * 2 + 1) 0) (λ a. get_or w a 0) (λ a h. even-entry m 2 (seconds_values w) (λ b k. refl) a 1 h (omega arith))

  -- from rows to cells
  module _ (vs : List ℕ) (h : Fits (seconds_format level s) vs) where
    second_parts : Rows m (λ a. row (seconds_row_of a)) vs
    unfolding seconds_format
    second_parts = rows-was m (λ a. row (seconds_row_of a)) vs (then-was (fixed-literal (seconds_title level)) (λ us. each m (λ a. row (seconds_row_of a))) vs h)

    second-was : (a : ℕ) → a < m → RowFits (seconds_row_of a) (second_parts.part a)
    second-was a k = row-was (seconds_row_of a) (second_parts.part a) (second_parts.fits a k)

    pub seconds-long : length vs ≡ m * 2
    seconds-long = ap length second_parts.whole ∙ even-rows m 2 second_parts.part (λ a k. (second-was a k).count)

    entry : (a i : ℕ) → a < m → i < 2 → get_or vs (a * 2 + i) 0 ≡ get_or (second_parts.part a) i 0
    entry a i k l = ap (λ (x : List ℕ). get_or x (a * 2 + i) 0) second_parts.whole ∙ even-entry m 2 second_parts.part (λ b j. (second-was b j).count) a i k l

    cell : (a : ℕ) → a < m → get_or (cells_of m vs) a 0 ≡ get_or (second_parts.part a) 1 0
    cell a k = get_or-tab m (λ b. get_or vs (b * 2 + 1) 0) a k ∙ entry a 1 k (omega arith)

    pub times-fit : TimesFit m (cells_of m vs)
    times-fit = record {
      many = omega (arith, length-tab m (λ a. get_or vs (a * 2 + 1) 0));
      good = λ a k. let c = (second-was a k).takes 1 (omega arith) in (omega (arith, cell a k, c.low), omega (arith, cell a k, c.high));
    }

    pub seconds-are : vs ≡ seconds_of level s (cells_of m vs)
    unfolding seconds_of
    seconds-are =
        second_parts.whole
        ∙ rows_same m second_parts.part (seconds_values (cells_of m vs))
        (λ a k. ext_get_or 0 (second_parts.part a) (seconds_values (cells_of m vs) a) (second-was a k).count (λ i l. by a k i (omega (arith, l, (second-was a k).count))))
      where
        by : (a : ℕ) → a < m → (i : ℕ) → i < 2 → get_or (second_parts.part a) i 0 ≡ get_or (seconds_values (cells_of m vs) a) i 0
        by a k zero l = let c = (second-was a k).takes 0 (omega arith) in omega (arith, c.low, c.high)
        by a k (suc zero) l = sym (cell a k)
        by a k (suc (suc i)) l = absurd (omega arith)
