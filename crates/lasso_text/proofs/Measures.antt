-- How long the text of a lasso is, line by line. Assumes nothing.
use mathlib.Core.Path.{◌≡◌, refl, ap, ◌∙◌}
use mathlib.Core.List.{List, ◌++◌}
use Prim.Native.Nat.{ℕ, ◌+◌, ◌*◌, ◌≤◌, ◌<◌}
use native.Mathlib.Omega.{arith}
use native.Mathlib.Numerals.{add-one}
use lib.ListN.{length, get_or, length-append}
use Rattle.slices.specs.Tables.{rows}
use Rattle.slices.proofs.Tables.{length-rows, rows-within, sum-le}
use Rattle.fdfa.specs.Words.{Over}
use Rattle.fdfa.proofs.Words.{over-letter}
use Rattle.numbers.specs.Digits.{digits_of, field}
use Rattle.numbers.proofs.Digits.{length-field, digits-few}
use Rattle.lasso_text.specs.Text.{title, prefix_name, period_name, letter_line, letter_lines, lasso_text_of}

module _ (name w : List ℕ) where
  -- one line more
  pub lines_next : (i : ℕ) → length (rows (i + 1) (letter_line name w)) ≡ length (rows i (letter_line name w)) + length (letter_line name w i)
  unfolding rows
  lines_next i =
      ap (λ (k : ℕ). length (rows k (letter_line name w))) (add-one i) ∙ length-append (rows i (letter_line name w)) (letter_line name w i)

  pub no_lines : length (rows 0 (letter_line name w)) ≡ 0
  unfolding rows
  no_lines = refl

  pub line-long : (i : ℕ) → length (letter_line name w i) ≡ length name + length (digits_of (get_or w i 0)) + 1
  line-long i = omega (arith, length-append name (field (get_or w i 0) 10), length-field (get_or w i 0) 10)

  pub line-within : (i : ℕ) → i < length w → length (rows i (letter_line name w)) + length (letter_line name w i) ≤ length (letter_lines name w)
  unfolding letter_lines
  line-within i h = rows-within (length w) (letter_line name w) i h

pub text-long : (u v : List ℕ) → length (lasso_text_of u v) ≡ 11 + length (letter_lines prefix_name u) + length (letter_lines period_name v)
unfolding lasso_text_of
text-long u v =
    omega (arith, length-append title (letter_lines prefix_name u ++ letter_lines period_name v), length-append (letter_lines prefix_name u) (letter_lines period_name v))

-- of bytes: a line has at most 29
few-lines : (name w : List ℕ) → length name ≤ 8 → Over 256 w → length (letter_lines name w) ≤ length w * 29
unfolding letter_lines
few-lines name w h o =
    omega (arith, length-rows (length w) (letter_line name w), sum-le (length w) (λ i. length (letter_line name w i)) 29 short)
  where
    short : (i : ℕ) → i < length w → length (letter_line name w i) ≤ 29
    short i l = omega (arith, line-long name w i, digits-few (get_or w i 0) (omega (arith, over-letter o i l)))

pub text-few : (u v : List ℕ) → Over 256 u → Over 256 v → length (lasso_text_of u v) ≤ 11 + length u * 29 + length v * 29
text-few u v a b =
    omega (arith, text-long u v, few-lines prefix_name u (omega arith) a, few-lines period_name v (omega arith) b)
