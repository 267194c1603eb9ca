-- How long lines and totals are, line by line. Assumes nothing.
use mathlib.Core.Path.{◌≡◌, refl, ap, ◌∙◌}
use mathlib.Core.List.{List, ◌++◌}
use Prim.Native.Nat.{ℕ, ◌+◌, ◌*◌, ◌≤◌, ◌<◌}
use native.Mathlib.Omega.{arith}
use native.Mathlib.Numerals.{add-one}
use lib.ListN.{length, get_or, length-append}
use Rattle.slices.specs.Tables.{rows, sum}
use Rattle.slices.proofs.Tables.{length-rows, rows-within, sum-le}
use Rattle.fdfa.specs.Words.{Over}
use Rattle.fdfa.proofs.Words.{over-letter}
use Rattle.numbers.specs.Digits.{digits_of, field}
use Rattle.numbers.proofs.Digits.{length-field, length_digits, digits-few}
use Rattle.running_sheet.specs.Text.{title, totals_title, line_start, totals_text, running_sheet_of}
use Rattle.running_sheet.specs.Lines.{opening, loop}
use Rattle.running_sheet.specs.Places.{seconds_at, timed_line, line_at, timed_lines, first_block, lasting}
use Rattle.running_sheet.specs.Steps.{Measurable}
use Rattle.running_sheet.proofs.Lines.{text-lines}

pub line-parts : (name : List ℕ) (letter seconds : ℕ) → length (timed_line name letter seconds) ≡ length name + length (field letter 32) + length (field seconds 10)
line-parts name letter seconds =
    omega (arith, length-append (name ++ field letter 32) (field seconds 10), length-append name (field letter 32))

pub line-long : (name : List ℕ) (letter seconds : ℕ) → length (timed_line name letter seconds) ≡ length name + length (digits_of letter) + length (digits_of seconds) + 2
line-long name letter seconds =
    omega (arith, line-parts name letter seconds, length-field letter 32, length-field seconds 10)

pub totals-long : (m n : ℕ) → length (totals_text m n) ≡ 13 + length (field m 32) + length (field n 10)
totals-long m n = omega (arith, length-append (totals_title ++ field m 32) (field n 10), length-append totals_title (field m 32))

pub show-long : (u v w : List ℕ) → length (first_block u v w) ≡ 19 + length (timed_lines (line_start opening) u w) + length (timed_lines (line_start loop) v w)
show-long u v w =
    omega (arith, length-append (title ++ timed_lines (line_start opening) u w) (timed_lines (line_start loop) v w), length-append title (timed_lines (line_start opening) u w))

module _ (name x w : List ℕ) where
  -- no line, and one line more
  pub no_lines : length (rows 0 (line_at name x w)) ≡ 0
  unfolding rows
  no_lines = refl

  pub lines_next : (i : ℕ) → length (rows (i + 1) (line_at name x w)) ≡ length (rows i (line_at name x w)) + length (line_at name x w i)
  unfolding rows
  lines_next i =
      ap (λ (k : ℕ). length (rows k (line_at name x w))) (add-one i) ∙ length-append (rows i (line_at name x w)) (line_at name x w i)

  pub line-within : (i : ℕ) → i < length x → length (rows i (line_at name x w)) + length (line_at name x w i) ≤ length (timed_lines name x w)
  unfolding timed_lines
  line-within i h = rows-within (length x) (line_at name x w) i h

-- no letter, and one letter more
module _ (x w : List ℕ) where
  pub sum-none : sum 0 (seconds_at x w) ≡ 0
  unfolding sum
  sum-none = refl

  pub sum-next : (i : ℕ) → sum (i + 1) (seconds_at x w) ≡ sum i (seconds_at x w) + seconds_at x w i
  unfolding sum
  sum-next i = ap (λ (k : ℕ). sum k (seconds_at x w)) (add-one i)

-- a word lasts at most 999 seconds for each letter
module _ {x w : List ℕ} (t : Measurable x w) where
  lasting-few : lasting x w ≤ length x * 999
  unfolding lasting
  lasting-few =
      sum-le (length x) (seconds_at x w) 999 (λ i h. omega (arith, t.times (get_or x i 0) (t.known i h)))

  pub digits-lasting : length (digits_of (lasting x w)) ≤ 20
  digits-lasting = digits-few (lasting x w) (omega (arith, lasting-few, t.few))

-- the whole text
module _ (u v w : List ℕ) where
  pub sheet-parts : length (running_sheet_of u v w) ≡ length (first_block u v w) + length (totals_text (lasting u w) (lasting v w))
  sheet-parts = ap length (text-lines u v w) ∙ length-append (first_block u v w) (totals_text (lasting u w) (lasting v w))

  pub sheet-long : length (running_sheet_of u v w) ≡ length (timed_lines (line_start opening) u w) + length (timed_lines (line_start loop) v w) + length (digits_of (lasting u w)) + length (digits_of (lasting v w)) + 34
  sheet-long =
      omega (arith, sheet-parts, show-long u v w, totals-long (lasting u w) (lasting v w), length-field (lasting u w) 32, length-field (lasting v w) 10)

-- at most 16 bytes for each letter, and 74
few-lines : (name x w : List ℕ) → length name ≤ 8 → Over 256 x → Measurable x w → length (timed_lines name x w) ≤ length x * 16
unfolding timed_lines
few-lines name x w h o t =
    omega (arith, length-rows (length x) (line_at name x w), sum-le (length x) (λ i. length (line_at name x w i)) 16 few)
  where
    few : (i : ℕ) → i < length x → length (line_at name x w i) ≤ 16
    few i l =
        omega (arith, line-long name (get_or x i 0) (seconds_at x w i), length_digits (get_or x i 0) (omega (arith, over-letter o i l)), length_digits (seconds_at x w i) (t.times (get_or x i 0) (t.known i l)))

pub running-few : (u v w : List ℕ) → Over 256 u → Over 256 v → Measurable u w → Measurable v w → length (running_sheet_of u v w) ≤ 74 + length u * 16 + length v * 16
running-few u v w a b s t =
    omega (arith, sheet-long u v w, few-lines (line_start opening) u w (omega arith) a s, few-lines (line_start loop) v w (omega arith) b t, digits-lasting s, digits-lasting t)
