-- The numbers of a family that has a packed form fit the format, and their text is that of its lines. Assumes nothing.
use mathlib.Core.Path.{◌≡◌, refl, ap, sym, subst, ◌∙◌}
use mathlib.Core.Bool.{Bool, true, false}
use mathlib.Core.List.{List, ◌++◌}
use Prim.Native.Nat.{ℕ, zero, suc, ◌+◌, ◌*◌, ◌≤◌, ◌<◌}
use native.Mathlib.Omega.{arith}
use lib.ListN.{get_or}
use Rattle.fdfa.specs.Family.{Fdfa}
use Rattle.slices.specs.Seconds.{TimesFit}
use Rattle.slices.specs.Tables.{tab, rows}
use Rattle.slices.proofs.Tables.{length-tab, get_or-tab, rows_same, get_or-second}
use Rattle.packed.specs.Layout.{mark, Packable}
use Rattle.format.specs.declared.Column.{Column}
use Rattle.format.specs.Format.{Format, printed, Takes, Fits, each}
use Rattle.format.specs.Rows.{separator, column_of, row}
use Rattle.format.proofs.Sequences.{fits_each, printed-each}
use Rattle.format.proofs.Fixed.{fixed-literal, then-fits, then-text}
use Rattle.format.proofs.Rows.{RowFits, within, row_is, printed-row}
use Rattle.blocks.specs.Text.{timed, counts_title, leading_title, progress_title, counts_row_of, leading_row_of, progress_row_of, counts_format, leading_format, part_format, progress_format, letters_in, states_in, leading_in, size_in, parts_format, counts_of, leading_values_of, leading_of, progress_values_of, front_of, parts_of, text_for}
use Rattle.blocks.specs.Lines.{head_text, counts_text, leading_text, part_text, progress_text, lines_of}
use Rattle.blocks.proofs.Durations.{seconds-text}
use Rattle.blocks.proofs.Shapes.{fixed-head, leading-column, progress-column, even-entry}

mark-small : (b : Bool) → mark b < 2
mark-small true = omega arith
mark-small false = omega arith

module _ (F : Fdfa) (P : Packable F) where
  abbrev s : ℕ
  s = F.letters

  abbrev n : ℕ
  n = F.states

  pub leading-fit : (q : ℕ) → q < n → RowFits (leading_row_of s n q) (leading_values_of F q)
  leading-fit q h = record { count = ap (λ (m : ℕ). suc (suc m)) (length-tab s (F.step q)) ∙ omega arith; takes = by }
    where
      by : (i : ℕ) → i < s + 2 → Takes (column_of (leading_row_of s n q) i) (separator (s + 2) i) (get_or (leading_values_of F q) i 0)
      by zero l = within _ (s + 2) 0 q (omega arith) (omega arith) (omega (arith, P.few_states))
      by (suc zero) l = within _ (s + 2) 1 (F.size q) (P.complete.starts q h) (omega (arith, P.few_progress q h)) (omega (arith, P.few_progress q h))
      by (suc (suc a)) l =
          let e = get_or-tab s (F.step q) a (omega arith) in
          let b : F.step q a < n = P.complete.leads q a h (omega arith) in
          subst (λ (c : Column). Takes c (separator (s + 2) (suc (suc a))) (get_or (leading_values_of F q) (suc (suc a)) 0)) (sym (leading-column s n q (suc (suc a)) (omega arith)))
          (within _ (s + 2) (suc (suc a)) (get_or (tab s (F.step q)) a 0) (omega arith) (omega (arith, e)) (omega (arith, e, P.few_states)))

  pub progress-fit : (q p : ℕ) → q < n → p < F.size q → RowFits (progress_row_of s q (F.size q) p) (progress_values_of F q p)
  progress-fit q p h k = record { count = ap (λ (m : ℕ). suc (suc (suc m))) (length-tab s (F.progress q p)) ∙ omega arith; takes = by }
    where
      by : (i : ℕ) → i < s + 3 → Takes (column_of (progress_row_of s q (F.size q) p) i) (separator (s + 3) i) (get_or (progress_values_of F q p) i 0)
      by zero l = within _ (s + 3) 0 q (omega arith) (omega arith) (omega (arith, P.few_states))
      by (suc zero) l = within _ (s + 3) 1 p (omega arith) (omega arith) (omega (arith, P.few_progress q h))
      by (suc (suc zero)) l = within _ (s + 3) 2 (mark (F.accepting q p)) (omega arith) (mark-small (F.accepting q p)) (omega (arith, mark-small (F.accepting q p)))
      by (suc (suc (suc a))) l =
          let e = get_or-tab s (F.progress q p) a (omega arith) in
          let b : F.progress q p a < F.size q = P.complete.progresses q h p a k (omega arith) in
          subst (λ (c : Column). Takes c (separator (s + 3) (suc (suc (suc a)))) (get_or (progress_values_of F q p) (suc (suc (suc a))) 0)) (sym (progress-column s q (F.size q) p (suc (suc (suc a))) (omega arith)))
          (within _ (s + 3) (suc (suc (suc a))) (get_or (tab s (F.progress q p)) a 0) (omega arith) (omega (arith, e)) (omega (arith, e, P.few_progress q h)))

  leading-rows : (q : ℕ) → q < n → Fits (row (leading_row_of s n q)) (leading_values_of F q)
  leading-rows q h = row_is (leading_row_of s n q) (leading_values_of F q) (leading-fit q h)

  pub leading-block : Fits (leading_format s n) (leading_of F)
  unfolding leading_of
  leading-block =
      then-fits (fixed-head leading_title s) (λ vs. each n (λ q. row (leading_row_of s n q))) (rows n (leading_values_of F))
      (fits_each n (λ q. row (leading_row_of s n q)) (leading_values_of F) leading-rows)

  leading-text : printed (leading_format s n) (leading_of F) ≡ leading_text F
  unfolding leading_of
  leading-text =
      then-text (fixed-head leading_title s) (λ vs. each n (λ q. row (leading_row_of s n q))) (rows n (leading_values_of F))
      ∙ ap (λ (x : List ℕ). head_text leading_title s ++ x) (printed-each n (λ q. row (leading_row_of s n q)) (leading_values_of F) leading-rows ∙ rows_same n _ _ (λ q h. printed-row (leading_row_of s n q) (leading_values_of F q) (leading-fit q h)))

  part-rows : (q : ℕ) → q < n → (p : ℕ) → p < F.size q → Fits (row (progress_row_of s q (F.size q) p)) (progress_values_of F q p)
  part-rows q h p k = row_is (progress_row_of s q (F.size q) p) (progress_values_of F q p) (progress-fit q p h k)

  -- at a level
  module _ (level : ℕ) where
    -- what the front says
    pub letters-in : letters_in (front_of level F) ≡ s
    letters-in = refl

    pub states-in : states_in (front_of level F) ≡ n
    states-in = refl

    pub leading-in : (q i : ℕ) → q < n → i < s + 2 → leading_in (front_of level F) q i ≡ get_or (leading_values_of F q) i 0
    unfolding leading_of
    leading-in q i h l =
        get_or-second (counts_of level F) (rows n (leading_values_of F)) 3 (q * (s + 2) + i) refl
        ∙ even-entry n (s + 2) (leading_values_of F) (λ r k. (leading-fit r k).count) q i h l

    pub size_in_lem : (q : ℕ) → q < n → size_in (front_of level F) q ≡ F.size q
    size_in_lem q h = leading-in q 1 h (omega arith)

    -- the third block
    abbrev part_of : ℕ → List ℕ
    part_of q = rows (F.size q) (progress_values_of F q)

    part-fits : (q : ℕ) → q < n → Fits (part_format s (size_in (front_of level F) q) q) (part_of q)
    part-fits q h =
        subst (λ (k : ℕ). Fits (part_format s k q) (part_of q)) (sym (size_in_lem q h))
        (fits_each (F.size q) (λ p. row (progress_row_of s q (F.size q) p)) (progress_values_of F q) (part-rows q h))

    part-printed : (q : ℕ) → q < n → printed (part_format s (size_in (front_of level F) q) q) (part_of q) ≡ part_text F q
    part-printed q h =
        ap (λ (k : ℕ). printed (part_format s k q) (part_of q)) (size_in_lem q h)
        ∙ (printed-each (F.size q) (λ p. row (progress_row_of s q (F.size q) p)) (progress_values_of F q) (part-rows q h) ∙ rows_same (F.size q) _ _ (λ p k. printed-row (progress_row_of s q (F.size q) p) (progress_values_of F q p) (progress-fit q p h k)))

    abbrev parts_rows : Format
    parts_rows = each n (λ q. part_format s (size_in (front_of level F) q) q)

    parts-format : parts_format (front_of level F) ≡ progress_format s n (size_in (front_of level F))
    unfolding parts_format
    parts-format = λ i. progress_format (letters-in i) (states-in i) (size_in (front_of level F))

    pub parts-fit : Fits (parts_format (front_of level F)) (parts_of F)
    unfolding parts_of
    parts-fit =
        subst (λ (f : Format). Fits f (parts_of F)) (sym parts-format)
        (then-fits (fixed-head progress_title s) (λ vs. parts_rows) (rows n part_of) (fits_each n (λ q. part_format s (size_in (front_of level F) q) q) part_of part-fits))

    parts-text : printed (parts_format (front_of level F)) (parts_of F) ≡ progress_text F
    unfolding parts_of
    parts-text =
        ap (λ (f : Format). printed f (parts_of F)) parts-format
        ∙ (then-text (fixed-head progress_title s) (λ vs. parts_rows) (rows n part_of)
        ∙ ap (λ (x : List ℕ). head_text progress_title s ++ x) (printed-each n (λ q. part_format s (size_in (front_of level F) q) q) part_of part-fits ∙ rows_same n _ _ part-printed))

  module _ (level : ℕ) (low : 3 ≤ level) (high : level < 5) where
    counts-fit : RowFits counts_row_of (counts_of level F)
    counts-fit = record { count = refl; takes = by }
      where
        by : (i : ℕ) → i < 3 → Takes (column_of counts_row_of i) (separator 3 i) (get_or (counts_of level F) i 0)
        by zero h = within _ 3 0 level low high (omega (arith, high))
        by (suc zero) h = within _ 3 1 s P.some_letters (omega (arith, P.few_letters)) (omega (arith, P.few_letters))
        by (suc (suc zero)) h = within _ 3 2 n P.complete.start (omega (arith, P.few_states)) (omega (arith, P.few_states))
        by (suc (suc (suc i))) h = absurd (omega arith)

    pub counts-block : Fits counts_format (counts_of level F)
    counts-block = then-fits (fixed-literal counts_title) (λ vs. row counts_row_of) (counts_of level F) (row_is counts_row_of (counts_of level F) counts-fit)

    counts-text : printed counts_format (counts_of level F) ≡ counts_text level F
    counts-text =
        then-text (fixed-literal counts_title) (λ vs. row counts_row_of) (counts_of level F)
        ∙ ap (λ (x : List ℕ). counts_title ++ x) (printed-row counts_row_of (counts_of level F) counts-fit)

    pub text-lines : (w : List ℕ) → TimesFit (timed level s) w → text_for level w F ≡ lines_of level w F
    text-lines w t = λ i.
        counts-text i ++ (seconds-text level s w P.few_letters t i ++ (leading-text i ++ parts-text level i))
