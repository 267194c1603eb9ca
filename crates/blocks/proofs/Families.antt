-- Families and numbers: the numbers of a family say that family, and numbers that fit are those of the family that they say. Assumes nothing.
use mathlib.Core.Path.{◌≡◌, refl, ap, sym, ◌∙◌}
use mathlib.Core.List.{List}
use Prim.Native.Nat.{ℕ, zero, suc, ◌+◌, ◌*◌, ◌<◌}
use native.Mathlib.Omega.{arith}
use lib.Dec.{eqb}
use lib.ListN.{length, get_or}
use Rattle.fdfa.specs.Family.{Fdfa, Agrees}
use Rattle.slices.specs.Tables.{rows, sum}
use Rattle.slices.proofs.Tables.{length-tab, get_or-tab, sum_same}
use Rattle.packed.specs.Layout.{Packable}
use Rattle.packed.proofs.Packing.{mark-byte, mark-says}
use Rattle.blocks.specs.Text.{level_in, letters_in, states_in, leading_in, size_in, leading_values_of, leading_of, progress_values_of, front_of, parts_of}
use Rattle.blocks.specs.Numbers.{progress_in, family_of}
use Rattle.blocks.specs.Values.{Whole}
use Rattle.blocks.proofs.Shapes.{even-rows, even-entry, nested-entry, front-was, front-are, parts_are, rows_fit, progress-takes, whole-readable}
use Rattle.blocks.proofs.Texts.{letters-in, states-in, leading-in, size_in_lem, progress-fit}

-- from a family to its numbers and back
module _ (F : Fdfa) (P : Packable F) (level : ℕ) where
  abbrev s : ℕ
  s = F.letters

  abbrev front : List ℕ
  front = front_of level F

  sums : (q : ℕ) → q < F.states → sum q (size_in front) ≡ sum q F.size
  sums q h = sum_same q (size_in front) F.size (λ r l. size_in_lem F P level r (omega arith))

  part-long : (q : ℕ) → q < F.states → length (rows (F.size q) (progress_values_of F q)) ≡ F.size q * (s + 3)
  part-long q h = even-rows (F.size q) (s + 3) (progress_values_of F q) (λ p k. (progress-fit F P q p h k).count)

  entry-is : (q p i : ℕ) → q < F.states → p < F.size q → i < s + 3 → progress_in front (parts_of F) q p i ≡ get_or (progress_values_of F q p) i 0
  unfolding parts_of
  entry-is q p i h k l =
      (λ j. get_or (parts_of F) ((sums q h j + p) * (letters-in F P level j + 3) + i) 0)
      ∙ (nested-entry F.states (s + 3) F.size (λ r. rows (F.size r) (progress_values_of F r)) part-long q p i h k l
      ∙ even-entry (F.size q) (s + 3) (progress_values_of F q) (λ r m. (progress-fit F P q r h m).count) p i k l)

  pub family-is : Agrees F (family_of front (parts_of F))
  family-is = record {
    letters = sym (letters-in F P level);
    states = sym (states-in F P level);
    steps = λ q a h l. let z : 2 + a ≡ suc (suc a) = omega arith in sym (leading-in F P level q (2 + a) h (omega arith) ∙ (ap (λ (i : ℕ). get_or (leading_values_of F q) i 0) z ∙ get_or-tab s (F.step q) a l));
    sizes = λ q h. sym (size_in_lem F P level q h);
    progresses = λ q p a h k l. let z : 3 + a ≡ suc (suc (suc a)) = omega arith in sym (entry-is q p (3 + a) h k (omega arith) ∙ (ap (λ (i : ℕ). get_or (progress_values_of F q p) i 0) z ∙ get_or-tab s (F.progress q p) a l));
    marks = λ q p h k. sym (ap (λ (x : ℕ). eqb x 1) (entry-is q p 2 h k (omega arith)) ∙ mark-says (F.accepting q p));
  }

-- from numbers that fit to the family and back
module _ (front parts : List ℕ) (w : Whole front parts) where
  abbrev G : Fdfa
  G = family_of front parts

  leading-long : (q : ℕ) → q < states_in front → length (leading_values_of G q) ≡ letters_in front + 2
  leading-long q h = ap (λ (m : ℕ). suc (suc m)) (length-tab (letters_in front) (G.step q)) ∙ omega arith

  pub front-is : front_of (level_in front) G ≡ front
  unfolding leading_of
  front-is = sym (front-are front w.first (leading_values_of G) leading-long by)
    where
      by : (q i : ℕ) → q < states_in front → i < letters_in front + 2 → leading_in front q i ≡ get_or (leading_values_of G q) i 0
      by q zero h l = (front-was front w.first).turns q h
      by q (suc zero) h l = refl
      by q (suc (suc a)) h l =
          let z : suc (suc a) ≡ 2 + a = omega arith in
          ap (leading_in front q) z ∙ sym (get_or-tab (letters_in front) (G.step q) a (omega arith))

  progress-long : (q p : ℕ) → q < states_in front → p < size_in front q → length (progress_values_of G q p) ≡ letters_in front + 3
  progress-long q p h k = ap (λ (m : ℕ). suc (suc (suc m))) (length-tab (letters_in front) (G.progress q p)) ∙ omega arith

  pub parts_is : parts_of G ≡ parts
  unfolding parts_of
  parts_is = sym (parts_are (letters_in front) (states_in front) (size_in front) parts (rows_fit front parts w) (progress_values_of G) progress-long by)
    where
      by : (q p i : ℕ) → q < states_in front → p < size_in front q → i < letters_in front + 3 → progress_in front parts q p i ≡ get_or (progress_values_of G q p) i 0
      by q p zero h k l = let t = progress-takes front parts w q p 0 h k l in omega (arith, t.low, t.high)
      by q p (suc zero) h k l = let t = progress-takes front parts w q p 1 h k l in omega (arith, t.low, t.high)
      by q p (suc (suc zero)) h k l = sym (mark-byte (progress_in front parts q p 2) ((whole-readable front parts w).marks q p h k))
      by q p (suc (suc (suc a))) h k l =
          let z : suc (suc (suc a)) ≡ 3 + a = omega arith in
          ap (progress_in front parts q p) z ∙ sym (get_or-tab (letters_in front) (G.progress q p) a (omega arith))
