-- The lines of a word, as the engine reads and prints them: what fits is a word over the letters, and its text is that of its lines.
-- Assumes nothing.
use mathlib.Core.Path.{◌≡◌, refl, ap, sym, subst, ◌∙◌}
use mathlib.Core.List.{List, [], ◌∷◌}
use Prim.Native.Nat.{ℕ, ◌≤◌, ◌<◌}
use native.Mathlib.Omega.{arith}
use lib.ListN.{length, get_or}
use Rattle.slices.specs.Tables.{tab, rows}
use Rattle.slices.proofs.Tables.{length-tab, get_or-tab, tab-get_or, rows_same}
use Rattle.fdfa.specs.Words.{Over}
use Rattle.fdfa.proofs.Words.{letters-over, over-letter}
use Rattle.format.specs.Format.{Format, printed, Takes, Fits, each}
use Rattle.format.specs.Rows.{cell}
use Rattle.format.specs.Lines.{labelled}
use Rattle.format.proofs.Sequences.{fits_each, printed-each}
use Rattle.format.proofs.Fixed.{fixed-literal, then-fits, then-was, then-text}
use Rattle.format.proofs.Rows.{Rows, rows-was, rows-singles, cell-was}
use Rattle.lasso_text.specs.Text.{letter_line, letter_lines}
use Rattle.lasso_text.specs.Reading.{letter}

module _ (name : List ℕ) (s : ℕ) where
  abbrev line : Format
  line = labelled name (λ v. letter s) 10

  abbrev pub lines : ℕ → Format
  lines m = each m (λ i. line)

  -- a word over the letters fits as many lines
  letter-fits : (a : ℕ) → a < s → s ≤ 1000 → Fits line (a ∷ [])
  unfolding labelled Fits
  letter-fits a h small =
      then-fits (fixed-literal name) (λ us. cell (letter s) 10) (a ∷ []) (record { low = omega arith; high = h; small = omega arith; ends = refl }, tt)

  pub word_fits : (w : List ℕ) → s ≤ 1000 → Over s w → Fits (lines (length w)) w
  word_fits w small over =
      subst (Fits (lines (length w))) (rows-singles (length w) (λ i. get_or w i 0) ∙ tab-get_or w)
      (fits_each (length w) (λ i. line) (λ i. get_or w i 0 ∷ []) (λ i h. letter-fits (get_or w i 0) (over-letter over i h) small))

  module _ (m : ℕ) (vs : List ℕ) (fits : Fits (lines m) vs) where
    r : Rows m (λ i. line) vs
    r = rows-was m (λ i. line) vs fits

    first : ℕ → ℕ
    first i = get_or (r.part i) 0 0

    only : (i : ℕ) → i < m → (r.part i ≡ first i ∷ []) × Takes (letter s) 10 (first i)
    unfolding labelled first
    only i h = cell-was (letter s) 10 (r.part i) (then-was (fixed-literal name) (λ us. cell (letter s) 10) (r.part i) (r.fits i h))

    all : vs ≡ tab m first
    all = r.whole ∙ (rows_same m r.part (λ i. first i ∷ []) (λ i h. (only i h).0) ∙ rows-singles m first)

    entry : (i : ℕ) → i < m → get_or vs i 0 ≡ first i
    entry i h = ap (λ (l : List ℕ). get_or l i 0) all ∙ get_or-tab m first i h

    -- what fits m lines is a word of m letters, all below s
    pub fits-long : length vs ≡ m
    fits-long = ap length all ∙ length-tab m first

    pub fits-over : Over s vs
    fits-over =
        letters-over s vs (λ i h. let k : i < m = omega (arith, fits-long) in subst (λ (x : ℕ). x < s) (sym (entry i k)) (only i k).1.high)

    -- and its text is that of its lines
    pub fits-text : printed (lines m) vs ≡ letter_lines name vs
    unfolding letter_lines labelled printed
    fits-text =
        ap (printed (lines m)) r.whole
        ∙ (printed-each m (λ i. line) r.part r.fits
        ∙ (rows_same m (λ i. printed line (r.part i)) (letter_line name vs) row ∙ ap (λ (k : ℕ). rows k (letter_line name vs)) (sym fits-long)))
      where
        row : (i : ℕ) → i < m → printed line (r.part i) ≡ letter_line name vs i
        row i h =
            ap (printed line) ((only i h).0 ∙ (λ j. sym (entry i h) j ∷ []))
            ∙ then-text (fixed-literal name) (λ us. cell (letter s) 10) (get_or vs i 0 ∷ [])
