-- n + 1 numbers below n are not all different. Assumes nothing.
use mathlib.Core.Path.{◌≡◌, ap, sym, ◌∙◌}
use mathlib.Core.Bool.{Bool, cond}
use Prim.Native.Nat.{ℕ, zero, suc, ◌≤◌, ◌<◌}
use native.Mathlib.Omega.{arith}
use native.Mathlib.Decide.{dec_lt, ℕ_discrete}
use lib.Dec.{eqb}
use borrow.Author.Tests.{eq-eqb, ne_eqb, eqb-true}
use Rattle.slices.specs.Extremes.{least}
use Rattle.slices.proofs.Extremes.{least-le, least-passes}

-- Two places of a sequence, up to n, with the same number.
pub record Repeat (g : ℕ → ℕ) (n : ℕ) : Type 0 where
  pub a : ℕ
  pub b : ℕ
  pub rises : a < b
  pub upto : b ≤ n
  pub same : g a ≡ g b

module _ (m : ℕ) (g : ℕ → ℕ) (inside : (t : ℕ) → t ≤ suc m → g t < suc m) (alone : (t : ℕ) → t ≤ m → g t ≡ g (suc m) → ⊥) where
  -- the sequence without its last number, which takes the place of m
  less : ℕ → ℕ
  less t = cond (eqb (g t) m) (g (suc m)) (g t)

  less-top : (t : ℕ) → g t ≡ m → less t ≡ g (suc m)
  unfolding less
  less-top t e = ap (λ (c : Bool). cond c (g (suc m)) (g t)) (eq-eqb (g t) m e)

  less_other : (t : ℕ) → (g t ≡ m → ⊥) → less t ≡ g t
  unfolding less
  less_other t e = ap (λ (c : Bool). cond c (g (suc m)) (g t)) (ne_eqb (g t) m e)

  less-inside : (t : ℕ) → t ≤ m → less t < m
  less-inside t h = by (ℕ_discrete (g t) m)
    where
      by : Dec (g t ≡ m) → less t < m
      by (yes e) =
          let other : g (suc m) ≡ m → ⊥ = λ d. alone t h (e ∙ sym d) in
          rw (less-top t e) (omega (arith, inside (suc m) (omega arith)))
      by (no e) = rw (less_other t e) (omega (arith, inside t (omega arith)))

  less-same : (a b : ℕ) → a ≤ m → b ≤ m → less a ≡ less b → g a ≡ g b
  less-same a b ha hb e = by (ℕ_discrete (g a) m) (ℕ_discrete (g b) m)
    where
      by : Dec (g a ≡ m) → Dec (g b ≡ m) → g a ≡ g b
      by (yes p) (yes q) = p ∙ sym q
      by (yes p) (no q) = absurd (alone b hb (sym (less_other b q) ∙ (sym e ∙ less-top a p)))
      by (no p) (yes q) = absurd (alone a ha (sym (less_other a p) ∙ (e ∙ less-top b q)))
      by (no p) (no q) = sym (less_other a p) ∙ (e ∙ less_other b q)

  widen : Repeat less m → Repeat g (suc m)
  widen r = record { a = r.a; b = r.b; rises = r.rises; upto = omega (arith, r.upto); same = less-same r.a r.b (omega (arith, r.rises, r.upto)) r.upto r.same }

pub pigeonhole : (n : ℕ) (g : ℕ → ℕ) → ((t : ℕ) → t ≤ n → g t < n) → Repeat g n
pigeonhole zero g inside = absurd (omega (arith, inside 0 (omega arith)))
pigeonhole (suc m) g inside = by (dec_lt first (suc m)) (λ (h : ℕ → ℕ). pigeonhole m h)
  where
    first : ℕ
    first = least (suc m) (λ t. eqb (g t) (g (suc m)))

    by : Dec (first < suc m) → ((h : ℕ → ℕ) → ((t : ℕ) → t ≤ m → h t < m) → Repeat h m) → Repeat g (suc m)
    by (yes l) ih = record {
      a = first;
      b = suc m;
      rises = l;
      upto = omega arith;
      same = eqb-true (g first) (g (suc m)) (least-passes (suc m) (λ t. eqb (g t) (g (suc m))) l);
    }
    by (no l) ih =
        let alone : (t : ℕ) → t ≤ m → g t ≡ g (suc m) → ⊥ =
        λ t h e. l (omega (arith, least-le (suc m) (λ t. eqb (g t) (g (suc m))) t (omega arith) (eq-eqb (g t) (g (suc m)) e))) in
        widen m g inside alone (ih (less m g inside alone) (less-inside m g inside alone))
