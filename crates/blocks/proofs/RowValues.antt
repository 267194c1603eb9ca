-- The numbers of a row, stored one after the other in the cells of a slice. Assumes nothing.
use mathlib.Core.Path.{◌≡◌, refl, ap, sym, ◌∙◌}
use mathlib.Core.List.{List, ◌∷◌}
use Prim.Native.Nat.{ℕ, ◌+◌, ◌*◌, ◌≤◌, ◌<◌}
use native.Mathlib.Omega.{arith}
use lib.ListN.{length, get_or, set}
use lib.Seq.{sets}
use Rattle.slices.specs.Filling.{written}
use Rattle.slices.specs.Tables.{tab}
use Rattle.slices.proofs.Tables.{length-tab, tab-same}
use Rattle.packed.specs.Layout.{letter_count, state_count, size_of, leading_at, progress_at_value, marks_at, table_step, mark, decode, Valid}
use Rattle.packed.proofs.Packing.{mark-byte}
use Rattle.numbers.proofs.Stores.{stored-written}
use Rattle.blocks.specs.Text.{leading_values_of, progress_values_of}

sets-written : (vs old : List ℕ) → length vs ≤ length old → sets old 0 vs ≡ written vs old
sets-written vs old h = stored-written {x = vs} (record { cells = refl; next = refl }) h

-- a row of a table, by the place where it begins
nexts : (b : List ℕ) (at s q from : ℕ) → from ≡ at + q * s → tab s (λ a. get_or b (from + a) 0) ≡ tab s (table_step b at s q)
nexts b at s q from e = tab-same s _ _ (λ a h. ap (λ (k : ℕ). get_or b k 0) (place a))
  where
    place : (a : ℕ) → from + a ≡ at + (q * s + a)
    place a = omega arith

module _ (b old : List ℕ) {s : ℕ} (letters : s ≡ letter_count b) where
  pub leading-row : {n q x y : ℕ} → n ≡ state_count b → x ≡ q → y ≡ size_of b q → s + 2 ≤ length old
      → sets (set (set old 0 x) 1 y) 2 (tab s (λ a. get_or b (2 + n + q * s + a) 0)) ≡ written (leading_values_of (decode b) q) old
  leading-row {n} {q} count ex ey room =
      (λ i. sets (set (set old 0 (ex i)) 1 (ey i)) 2 (tab (letters i) (λ a. get_or b (2 + count i + q * letters i + a) 0)))
      ∙ (ap (λ (l : List ℕ). sets old 0 (q ∷ size_of b q ∷ l)) (nexts b (leading_at b) (letter_count b) q (2 + state_count b + q * letter_count b) refl)
      ∙ sets-written (leading_values_of (decode b) q) old (omega (arith, length-tab (letter_count b) ((decode b).step q))))

  pub progress-row : {q p k from x y z : ℕ} → Valid b → q < state_count b → p < k → k ≡ size_of b q → from ≡ progress_at_value b q → x ≡ q → y ≡ p → z ≡ get_or b (from + k * s + p) 0 → s + 3 ≤ length old
      → sets (set (set (set old 0 x) 1 y) 2 z) 3 (tab s (λ a. get_or b (from + p * s + a) 0)) ≡ written (progress_values_of (decode b) q p) old
  progress-row {q} {p} {k} {from} valid h l ek ef ex ey ez room =
      (λ i. sets (set (set (set old 0 (ex i)) 1 (ey i)) 2 (ez i)) 3 (tab s (λ a. get_or b (from + p * s + a) 0)))
      ∙ ((λ i. sets old 0 (q ∷ p ∷ get_or b (ef i + ek i * letters i + p) 0 ∷ tab (letters i) (λ a. get_or b (ef i + p * letters i + a) 0)))
      ∙ ((λ i. sets old 0 (q ∷ p ∷ mark-is i ∷ nexts b (progress_at_value b q) (letter_count b) p (progress_at_value b q + p * letter_count b) refl i))
      ∙ sets-written (progress_values_of (decode b) q p) old (omega (arith, length-tab (letter_count b) ((decode b).progress q p)))))
    where
      mark-is : get_or b (marks_at b q + p) 0 ≡ mark ((decode b).accepting q p)
      mark-is = sym (mark-byte (get_or b (marks_at b q + p) 0) (valid.marks q p h (omega arith)))

-- how many numbers a row has
pub leading_length : (b : List ℕ) (q : ℕ) {s : ℕ} → s ≡ letter_count b → length (leading_values_of (decode b) q) ≡ s + 2
leading_length b q letters = omega (arith, length-tab (letter_count b) ((decode b).step q))

pub progress-length : (b : List ℕ) (q p : ℕ) {s : ℕ} → s ≡ letter_count b → length (progress_values_of (decode b) q p) ≡ s + 3
progress-length b q p letters = omega (arith, length-tab (letter_count b) ((decode b).progress q p))
