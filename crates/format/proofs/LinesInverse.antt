-- Lines of a word and a number are inverse to printing: what is read are lines that stand there, and lines that stand there, where no
-- further one begins, are read. Assumes nothing.
use Rattle.std.specs.Prelude.{Ok}
use mathlib.Core.Path.{◌≡◌, sym, subst, ◌∙◌}
use mathlib.Core.Bool.{false}
use mathlib.Core.List.{List, [], ◌∷◌, ◌++◌}
use Prim.Native.Nat.{ℕ, ◌+◌, ◌≤◌, ◌<◌}
use native.Mathlib.Omega.{arith}
use lib.ListN.{length, get_or}
use Rattle.slices.specs.declared.Part.{Part}
use Rattle.numbers.proofs.Standing.{At}
use Rattle.format.specs.declared.Column.{Column}
use Rattle.format.specs.Format.{Format, Found, stands, printed, Fits, chained}
use Rattle.format.specs.Lines.{labelled, lines, repeats, repeated, lines_at}
use Rattle.format.proofs.Inverse.{Read, reading-was}
use Rattle.format.proofs.Lined.{labelled-text}
use Rattle.format.proofs.Chained.{each-chained, Begins, chained-is, chained-end}

module _ (part : Part) (t word : List ℕ) (c : Column) (at : ℕ) where
  abbrev line : ℕ → List ℕ → Format
  line i vs = labelled word (λ v. c) 10

  same : (m : ℕ) → lines word c m ≡ chained m line
  same m = each-chained m (λ i. labelled word (λ v. c) 10)

  begins : 0 < length word → Begins (get_or word 0 0) line
  begins some i vs ws fits = first word some _ (labelled-text word ws (λ v. c) 10)
    where
      first : (x : List ℕ) → 0 < length x → (y : List ℕ) {z : List ℕ} → z ≡ x ++ y → (r : List ℕ) × (z ≡ get_or x 0 0 ∷ r)
      first [] l y e = absurd (omega arith)
      first (b ∷ x) l y e = (x ++ y, e)

  as-chained : lines_at part t word c at ≡ repeated part t (get_or word 0 0) (λ m. chained m line) at
  as-chained = λ i. repeated part t (get_or word 0 0) (λ m. same m i) at

  -- as many lines as are counted stand there
  pub lines-was : (w : Found) → at ≤ length t → lines_at part t word c at ≡ Ok w → Read t (lines word c (repeats part t (get_or word 0 0) (lines word c) at)) at w
  unfolding repeated
  lines-was w h e = reading-was part t (lines word c (repeats part t (get_or word 0 0) (lines word c) at)) at w h e

  pub lines-is : (m : ℕ) (vs : List ℕ) → 0 < length word → Fits (lines word c m) vs → At t at (printed (lines word c m) vs) → stands t (get_or word 0 0) (at + length (printed (lines word c m) vs)) ≡ false
      → lines_at part t word c at ≡ Ok (record { values = vs; next = at + length (printed (lines word c m) vs) })
  lines-is m vs some fits here stop =
      as-chained
      ∙ (chained-is line (get_or word 0 0) (begins some) t at part m vs (subst (λ (f : Format). Fits f vs) (same m) fits) (subst (λ (f : Format). At t at (printed f vs)) (same m) here)
      (subst (λ (f : Format). stands t (get_or word 0 0) (at + length (printed f vs)) ≡ false) (same m) stop)
      ∙ (λ i. Ok (record { values = vs; next = at + length (printed (sym (same m) i) vs) })))

  -- where no further one begins
  pub lines_end : (w : Found) → 0 < length word → at ≤ length t → lines_at part t word c at ≡ Ok w → stands t (get_or word 0 0) w.next ≡ false
  lines_end w some h e = chained-end line (get_or word 0 0) (begins some) t at part w h (sym as-chained ∙ e)
