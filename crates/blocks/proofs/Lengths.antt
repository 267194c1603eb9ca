-- How long the lines of a family's text are. Assumes nothing.
use mathlib.Core.Path.{◌≡◌, ◌∙◌}
use mathlib.Core.List.{List, [], ◌∷◌, ◌++◌}
use Prim.Native.Nat.{ℕ, zero, suc, ◌+◌, ◌*◌, ◌≤◌, ◌<◌}
use native.Mathlib.Omega.{arith}
use lib.ListN.{length, get_or, length-append}
use Rattle.fdfa.specs.Family.{Fdfa}
use Rattle.slices.specs.Seconds.{TimesFit}
use Rattle.slices.specs.Tables.{rows}
use Rattle.slices.proofs.Tables.{length-rows, sum-le}
use Rattle.packed.specs.Layout.{Packable}
use Rattle.numbers.specs.Digits.{field}
use Rattle.numbers.proofs.Digits.{length-field, length_digits}
use Rattle.format.specs.declared.Row.{Row}
use Rattle.format.specs.Rows.{separator, line}
use Rattle.format.proofs.Rows.{RowFits}
use Rattle.blocks.specs.Text.{names, counts_title, seconds_title, timed, seconds_values, leading_values_of, progress_values_of}
use Rattle.blocks.specs.Lines.{head_text, seconds_text, part_text}
use Rattle.blocks.proofs.LetterNames.{names-few}
use Rattle.blocks.proofs.Durations.{timed-few, title-few, second-fit}
use Rattle.blocks.proofs.Texts.{leading-fit, progress-fit}

-- rows of at most c bytes
rows_few : (m : ℕ) (f : ℕ → List ℕ) (c : ℕ) → ((i : ℕ) → i < m → length (f i) ≤ c) → length (rows m f) ≤ m * c
rows_few m f c h = omega (arith, length-rows m f, sum-le m (λ i. length (f i)) c h)

-- numbers of at most three digits
line-short : (vs : List ℕ) → ((i : ℕ) → i < length vs → get_or vs i 0 < 1000) → length (line vs) ≤ length vs * 4
line-short vs h = rows_few (length vs) (λ i. field (get_or vs i 0) (separator (length vs) i)) 4 (λ i l. one (get_or vs i 0) (separator (length vs) i) (h i l))
  where
    one : (v e : ℕ) → v < 1000 → length (field v e) ≤ 4
    one v e l = omega (arith, length-field v e, length_digits v l)

row-short : {r : Row} {vs : List ℕ} → RowFits r vs → length (line vs) ≤ r.count * 4
row-short {vs = vs} f = omega (arith, f.count, line-short vs (λ i l. (f.takes i (omega (arith, f.count))).small))

-- the counts
pub line-counts : (level s n : ℕ) → level < 5 → s ≤ 32 → n ≤ 32 → length (line (level ∷ s ∷ n ∷ [])) ≤ 12
line-counts level s n l h k = line-short (level ∷ s ∷ n ∷ []) few
  where
    few : (i : ℕ) → i < 3 → get_or (level ∷ s ∷ n ∷ []) i 0 < 1000
    few zero i = omega (arith, l)
    few (suc zero) i = omega arith
    few (suc (suc zero)) i = omega arith
    few (suc (suc (suc i))) j = absurd (omega arith)

pub counts-short : (level s n : ℕ) → level < 5 → s ≤ 32 → n ≤ 32 → length (counts_title ++ line (level ∷ s ∷ n ∷ [])) ≤ 32
counts-short level s n l h k = omega (arith, length-append counts_title (line (level ∷ s ∷ n ∷ [])), line-counts level s n l h k)

-- the block of the seconds
pub seconds-short : (level s : ℕ) (w : List ℕ) → s ≤ 32 → TimesFit (timed level s) w → length (seconds_text level s w) ≤ 270
seconds-short level s w h t =
    omega (
      arith,
      length-append (seconds_title level) (rows (timed level s) (λ a. line (seconds_values w a))),
      title-few level,
      rows_few (timed level s) (λ a. line (seconds_values w a)) 8 (λ a l. row-short (second-fit level s w h t a l)),
      timed-few level s,
    )

-- a line of names
pub head-length : (title : List ℕ) (s : ℕ) → length (head_text title s) ≡ length title + length (names s) + 1
head-length title s = length-append (title ++ names s) (10 ∷ []) ∙ omega (arith, length-append title (names s))

pub head-short : (title : List ℕ) (s : ℕ) → s ≤ 32 → length (head_text title s) ≤ length title + 119
head-short title s h = omega (arith, head-length title s, names-few s h)

-- the rows of the automata
module _ (F : Fdfa) (P : Packable F) where
  pub leading-short : length (rows F.states (λ q. line (leading_values_of F q))) ≤ 4352
  leading-short = omega (arith, rows_few F.states (λ q. line (leading_values_of F q)) 136 one, P.few_states)
    where
      one : (q : ℕ) → q < F.states → length (line (leading_values_of F q)) ≤ 136
      one q h = omega (arith, row-short (leading-fit F P q h), P.few_letters)

  part-short : (q : ℕ) → q < F.states → length (part_text F q) ≤ 4480
  part-short q h = omega (arith, rows_few (F.size q) (λ p. line (progress_values_of F q p)) 140 one, P.few_progress q h)
    where
      one : (p : ℕ) → p < F.size q → length (line (progress_values_of F q p)) ≤ 140
      one p k = omega (arith, row-short (progress-fit F P q p h k), P.few_letters)

  pub parts-short : length (rows F.states (part_text F)) ≤ 143360
  parts-short = omega (arith, rows_few F.states (part_text F) 4480 part-short, P.few_states)
