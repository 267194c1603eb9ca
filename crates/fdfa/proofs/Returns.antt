-- Sequences of numbers below n in which each number decides the next: where they first return. Assumes nothing.
use mathlib.Core.Path.{◌≡◌, ap, sym, ◌∙◌}
use Prim.Native.Nat.{ℕ, zero, suc, ◌+◌, ◌*◌, ◌-◌, ◌≤◌, ◌<◌}
use native.Mathlib.Omega.{arith}
use native.Mathlib.Nat.{suc-mul, zero-mul, le-mul_of_pos_right, le_antisymm}
use native.Mathlib.Decide.{dec_lt, dec_le}
use lib.Dec.{eqb, leb}
use borrow.Author.Tests.{eq-eqb, eqb-true, le-leb, leb-true}
use Rattle.fdfa.specs.Normalization.{return_from, returning, Smallest}
use Rattle.slices.proofs.Extremes.{least-le, least-passes, least-bound}
use Rattle.fdfa.proofs.Pigeonhole.{Repeat, pigeonhole}

-- Equal numbers have equal successors, however far.
abbrev pub Follows : (ℕ → ℕ) → Type 0
Follows g = (a b k : ℕ) → g a ≡ g b → g (a + k) ≡ g (b + k)

-- Only one pair of numbers is the smallest.
pub smallest-unique : (g : ℕ → ℕ) {i j i' j' : ℕ} → Smallest g i j → Smallest g i' j' → (i ≡ i') × (j ≡ j')
smallest-unique g {i} {j} {i'} {j'} p q = (
  le_antisymm (p.least_i i' j' q.positive q.same) (q.least_i i j p.positive p.same),
  le_antisymm (p.least_j i' j' q.positive q.same) (q.least_j i j p.positive p.same),
)

module _ (n : ℕ) (g : ℕ → ℕ) (follows : Follows g) (inside : (t : ℕ) → g t < n) where
  -- whole rounds of a return
  pub rounds : (i j : ℕ) → g i ≡ g (i + j) → (m : ℕ) → g i ≡ g (i + m * j)
  rounds i j e zero = ap g (omega (arith, zero-mul j))
  rounds i j e (suc m) =
      let here : i + j + m * j ≡ i + suc m * j = omega (arith, suc-mul m j) in
      rounds i j e m ∙ (follows i (i + j) (m * j) e ∙ ap g here)

  -- a return after any number of turns is also one after at most n
  soon : (i j : ℕ) → 1 ≤ j → g i ≡ g (i + j) → (d : ℕ) × (1 ≤ d) × (d ≤ n) × (g i ≡ g (i + d))
  soon i j p e = (d, omega (arith, r.rises), omega (arith, r.upto), back)
    where
      r : Repeat (λ t. g (i + t)) n
      r = pigeonhole n (λ t. g (i + t)) (λ t h. inside (i + t))

      d : ℕ
      d = r.b - r.a

      far : ℕ
      far = r.a * j

      long : r.a ≤ far
      long = le-mul_of_pos_right r.a p

      back : g i ≡ g (i + d)
      back =
          let whole : g i ≡ g (i + far) = rounds i j e r.a in
          let from : i + r.a + (far - r.a) ≡ i + far = omega (arith, long) in
          let to : i + r.b + (far - r.a) ≡ i + far + d = omega (arith, long, r.rises) in
          whole ∙ (sym (ap g from) ∙ (follows (i + r.a) (i + r.b) (far - r.a) r.same ∙ (ap g to ∙ sym (follows i (i + far) d whole))))

  -- `return_from` is at most each j that returns from i, and returns where it is at most n
  return-le : (i j : ℕ) → 1 ≤ j → j ≤ n → g i ≡ g (i + j) → return_from n g i ≤ j
  unfolding return_from
  return-le i zero p h e = absurd (omega arith)
  return-le i (suc j) p h e =
      omega (arith, least-le n (λ j. eqb (g i) (g (i + suc j))) j h (eq-eqb (g i) (g (i + suc j)) e))

  return-same : (i : ℕ) → return_from n g i ≤ n → g i ≡ g (i + return_from n g i)
  unfolding return_from
  return-same i h = eqb-true (g i) _ (least-passes n (λ j. eqb (g i) (g (i + suc j))) h)

  return-some : (i : ℕ) → 1 ≤ return_from n g i
  unfolding return_from
  return-some i = omega arith

  -- `returning` is at most each i that a return starts from
  returning-le : (i j : ℕ) → 1 ≤ j → g i ≡ g (i + j) → returning n g ≤ i
  unfolding returning
  returning-le i j p e = by (dec_lt i n)
    where
      d : (d : ℕ) × (1 ≤ d) × (d ≤ n) × (g i ≡ g (i + d))
      d = soon i j p e

      by : Dec (i < n) → returning n g ≤ i
      by (yes h) =
          least-le n (λ i. leb (return_from n g i) n) i h
          (le-leb (return_from n g i) n (omega (arith, return-le i d.0 d.1 d.2 d.3, d.2)))
      by (no h) = omega (arith, least-bound n (λ i. leb (return_from n g i) n))

  first : Repeat g n
  first = pigeonhole n g (λ t h. inside t)

  first-same : g first.a ≡ g (first.a + (first.b - first.a))
  first-same = first.same ∙ ap g (omega (arith, first.rises))

  returning-below : returning n g < n
  returning-below =
      omega (arith, returning-le first.a (first.b - first.a) (omega (arith, first.rises)) first-same, first.rises, first.upto)

  return-below : return_from n g (returning n g) ≤ n
  unfolding returning
  return-below = leb-true _ n (least-passes n (λ i. leb (return_from n g i) n) returning-below)

  pub smallest : Smallest g (returning n g) (return_from n g (returning n g))
  smallest = record {
    positive = return-some (returning n g);
    same = return-same (returning n g) return-below;
    least_i = returning-le;
    least_j = shortest;
  }
    where
      i : ℕ
      i = returning n g

      j : ℕ
      j = return_from n g i

      shortest : (i' j' : ℕ) → 1 ≤ j' → g i' ≡ g (i' + j') → return_from n g (returning n g) ≤ j'
      shortest i' j' p e = by (dec_le j' n)
        where
          far : ℕ
          far = i + i' * j

          back : g i ≡ g (i + j')
          back =
              let whole : g i ≡ g far = rounds i j (return-same i return-below) i' in
              let long : i' ≤ i' * j = le-mul_of_pos_right i' (return-some i) in
              let from : i' + (far - i') ≡ far = omega (arith, long) in
              let to : i' + j' + (far - i') ≡ far + j' = omega (arith, long) in
              whole ∙ (sym (ap g from) ∙ (follows i' (i' + j') (far - i') e ∙ (ap g to ∙ sym (follows i far j' whole))))

          by : Dec (j' ≤ n) → return_from n g (returning n g) ≤ j'
          by (yes h) = return-le i j' p h back
          by (no h) = omega (arith, return-below)

  pub few : returning n g + return_from n g (returning n g) ≤ n
  few =
      omega (
        arith,
        smallest.least_i first.a (first.b - first.a) (omega (arith, first.rises)) first-same,
        smallest.least_j first.a (first.b - first.a) (omega (arith, first.rises)) first-same,
        first.rises,
        first.upto,
      )

  -- the first number that was there before shows both
  pub first-return : (i j : ℕ) → 1 ≤ j → g i ≡ g (i + j) → ((a b : ℕ) → a < b → b < i + j → g a ≡ g b → ⊥) → (returning n g ≡ i) × (return_from n g (returning n g) ≡ j)
  first-return i j p e distinct = by (dec_lt (returning n g + return_from n g (returning n g)) (i + j))
    where
      low : returning n g ≤ i
      low = smallest.least_i i j p e

      short : return_from n g (returning n g) ≤ j
      short = smallest.least_j i j p e

      by : Dec (returning n g + return_from n g (returning n g) < i + j) → (returning n g ≡ i) × (return_from n g (returning n g) ≡ j)
      by (yes h) =
          absurd (distinct (returning n g) (returning n g + return_from n g (returning n g)) (omega (arith, smallest.positive)) h smallest.same)
      by (no h) = (omega (arith, low, short), omega (arith, low, short))
