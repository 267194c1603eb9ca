-- The numbers of a row, and its line. Assumes nothing.
use Rattle.slices.specs.declared.Reason.TheVariants.{OutOfTurn}
use mathlib.Core.Path.{◌≡◌, refl, ap, sym, subst, ◌∙◌}
use mathlib.Core.Bool.{Bool, true, false, cond}
use mathlib.Core.List.{List, [], ◌∷◌, ◌++◌}
use Prim.Native.Nat.{ℕ, zero, suc, ◌+◌, ◌≤◌, ◌<◌}
use native.Mathlib.Omega.{arith}
use native.Mathlib.Decide.{ℕ_discrete}
use lib.Dec.{eqb}
use lib.ListN.{length, get_or}
use borrow.Author.Tests.{eq-eqb, ne_eqb}
use Rattle.slices.specs.Scans.{outside}
use Rattle.slices.specs.Tables.{tab, rows}
use Rattle.slices.proofs.Tables.{length-tab, get_or-tab, tab-get_or, rows_same}
use Rattle.numbers.specs.Digits.{field}
use Rattle.format.specs.declared.Column.{Column}
use Rattle.format.specs.declared.Row.{Row}
use Rattle.format.specs.Format.{Format, printed, Takes, Fits, each}
use Rattle.format.specs.Rows.{separator, column_of, cell, row, numbered, line}
use Rattle.format.proofs.Sequences.{Split, split, fits_each, printed-each}

pub numbered-count : (r : Row) (turn i : ℕ) → (numbered r turn i).count ≡ r.count
numbered-count r turn i = by (eqb turn 0)
  where
    one : Row
    one = record { first = record { low = i; limit = i + 1; reason = OutOfTurn }; second = r.second; third = r.third; rest = r.rest; count = r.count }

    two : Row
    two = record { first = r.first; second = record { low = i; limit = i + 1; reason = OutOfTurn }; third = r.third; rest = r.rest; count = r.count }

    by : (b : Bool) → (cond b one two).count ≡ r.count
    by true = refl
    by false = refl

-- repetition: numbers that fit are those of each step
pub record Rows (m : ℕ) (f : ℕ → Format) (us : List ℕ) : Type 0 where
  pub part : ℕ → List ℕ
  pub whole : us ≡ rows m part
  pub fits : (i : ℕ) → i < m → Fits (f i) (part i)

pub rows-was : (m : ℕ) (f : ℕ → Format) (us : List ℕ) → Fits (each m f) us → Rows m f us
unfolding each rows Fits
rows-was zero f [] h = record { part = λ i. []; whole = refl; fits = λ i l. absurd (omega arith) }
rows-was zero f (u ∷ us) h = absurd h
rows-was (suc m) f us h = by (split (each m f) (λ vs. f m) us h) (rows-was m f)
  where
    by : Split (each m f) (λ vs. f m) us → ((vs : List ℕ) → Fits (each m f) vs → Rows m f vs) → Rows (suc m) f us
    by s ih = record { part = part; whole = s.whole ∙ (λ i. (r.whole ∙ rows_same m r.part part before) i ++ last i); fits = fits }
      where
        r : Rows m f s.left
        r = ih s.left s.first

        part : ℕ → List ℕ
        part i = cond (eqb i m) s.right (r.part i)

        last : s.right ≡ part m
        last = sym (ap (λ (b : Bool). cond b s.right (r.part m)) (eq-eqb m m refl))

        before : (i : ℕ) → i < m → r.part i ≡ part i
        before i l = let n : i ≡ m → ⊥ = λ e. omega arith in sym (ap (λ (b : Bool). cond b s.right (r.part i)) (ne_eqb i m n))

        fits : (i : ℕ) → i < suc m → Fits (f i) (part i)
        fits i l = step (ℕ_discrete i m)
          where
            step : Dec (i ≡ m) → Fits (f i) (part i)
            step (yes e) = subst (λ (k : ℕ). Fits (f k) (part k)) (sym e) (subst (Fits (f m)) last s.second)
            step (no e) = subst (Fits (f i)) (before i (omega arith)) (r.fits i (omega arith))

-- the one number of a cell
pub cell-was : (c : Column) (end : ℕ) (vs : List ℕ) → Fits (cell c end) vs → (vs ≡ get_or vs 0 0 ∷ []) × Takes c end (get_or vs 0 0)
unfolding Fits
cell-was c end [] h = absurd h
cell-was c end (v ∷ []) h = (refl, h.0)
cell-was c end (v ∷ (w ∷ vs)) h = absurd h.1

pub rows-singles : (m : ℕ) (v : ℕ → ℕ) → rows m (λ i. v i ∷ []) ≡ tab m v
unfolding rows tab
rows-singles zero v = refl
rows-singles (suc m) v = ap (λ (l : List ℕ). l ++ (v m ∷ [])) (rows-singles m v)

-- The numbers of a row: as many as its columns, each taken by its own.
pub record RowFits (r : Row) (vs : List ℕ) : Type 0 where
  pub count : length vs ≡ r.count
  pub takes : (i : ℕ) → i < r.count → Takes (column_of r i) (separator r.count i) (get_or vs i 0)

-- a space or a line feed ends a number, so a column takes what lies within its bounds
pub within : (c : Column) (m i v : ℕ) → c.low ≤ v → v < c.limit → v < 1000 → Takes c (separator m i) v
within c m i v a b d = record { low = a; high = b; small = d; ends = ends (eqb (i + 1) m) }
  where
    ends : (t : Bool) → outside 48 58 (cond t 10 32) ≡ true
    ends true = refl
    ends false = refl

pub row-was : (r : Row) (vs : List ℕ) → Fits (row r) vs → RowFits r vs
unfolding row
row-was r vs h = record { count = ap length all ∙ length-tab r.count v; takes = λ i l. subst (Takes (column_of r i) (separator r.count i)) (sym (ap (λ (x : List ℕ). get_or x i 0) all ∙ get_or-tab r.count v i l)) (cell-was (column_of r i) (separator r.count i) (s.part i) (s.fits i l)).1 }
  where
    s : Rows r.count (λ i. cell (column_of r i) (separator r.count i)) vs
    s = rows-was r.count (λ i. cell (column_of r i) (separator r.count i)) vs h

    v : ℕ → ℕ
    v i = get_or (s.part i) 0 0

    all : vs ≡ tab r.count v
    all =
        s.whole
        ∙ (rows_same r.count s.part (λ i. v i ∷ []) (λ i l. (cell-was (column_of r i) (separator r.count i) (s.part i) (s.fits i l)).0) ∙ rows-singles r.count v)

module _ (r : Row) (vs : List ℕ) (h : RowFits r vs) where
  cells : (i : ℕ) → i < r.count → Fits (cell (column_of r i) (separator r.count i)) (get_or vs i 0 ∷ [])
  unfolding Fits
  cells i l = (h.takes i l, tt)

  all-cells : rows r.count (λ i. get_or vs i 0 ∷ []) ≡ vs
  all-cells = rows-singles r.count (λ i. get_or vs i 0) ∙ (ap (λ (m : ℕ). tab m (λ i. get_or vs i 0)) (sym h.count) ∙ tab-get_or vs)

  pub row_is : Fits (row r) vs
  unfolding row
  row_is = subst (Fits (row r)) all-cells (fits_each r.count (λ i. cell (column_of r i) (separator r.count i)) (λ i. get_or vs i 0 ∷ []) cells)

  pub printed-row : printed (row r) vs ≡ line vs
  unfolding row printed
  printed-row =
      ap (printed (row r)) (sym all-cells)
      ∙ (printed-each r.count (λ i. cell (column_of r i) (separator r.count i)) (λ i. get_or vs i 0 ∷ []) cells
      ∙ ap (λ (m : ℕ). rows m (λ i. field (get_or vs i 0) (separator m i))) (sym h.count))
