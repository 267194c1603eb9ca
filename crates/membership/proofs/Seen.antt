-- A sequence of states below n, and a table that has, for each state, one more than the index where it first stood. Assumes nothing.
use mathlib.Core.Path.{◌≡◌, refl, ap, sym, ◌∙◌}
use mathlib.Core.List.{List}
use Prim.Native.Nat.{ℕ, zero, suc, ◌+◌, ◌-◌, ◌≤◌, ◌<◌}
use native.Mathlib.Omega.{arith}
use native.Mathlib.Decide.{dec_lt, ℕ_discrete}
use lib.ListN.{length, get_or, set, length-set, replicate, length-replicate}
use lib.Seq.{get_or-set_same, get_or-set_other}
use Rattle.fdfa.specs.Normalization.{return_from, returning}
use Rattle.fdfa.proofs.Pigeonhole.{Repeat, pigeonhole}
use Rattle.fdfa.proofs.Returns.{Follows, first-return}

-- The table after t states.
pub record Seen (g : ℕ → ℕ) (seen : List ℕ) (t : ℕ) : Type 0 where
  pub long : length seen ≡ 32
  pub noted : (a : ℕ) → a < t → get_or seen (g a) 0 ≡ a + 1
  pub only : (p : ℕ) → (get_or seen p 0 ≡ 0 → ⊥) → (a : ℕ) × (a < t) × (get_or seen p 0 ≡ a + 1) × (g a ≡ p)

-- What the first state that was there before shows: x is what the table has for that state q, met again at t.
pub record Returned (g : ℕ → ℕ) (n t x q : ℕ) : Type 0 where
  pub some : 1 ≤ x
  pub upto : x - 1 ≤ t
  pub first : x - 1 ≡ returning n g
  pub second : t - (x - 1) ≡ return_from n g (returning n g)
  pub stands : q ≡ g (returning n g)

get_or-zeros : (n p : ℕ) → get_or {A = ℕ} (replicate n 0) p 0 ≡ 0
get_or-zeros zero p = refl
get_or-zeros (suc n) zero = refl
get_or-zeros (suc n) (suc p) = get_or-zeros n p

pub seen_none : (g : ℕ → ℕ) → Seen g (replicate 32 0) 0
seen_none g = record {
  long = length-replicate {A = ℕ} 32 0;
  noted = λ a h. absurd (omega arith);
  only = λ p h. absurd (h (get_or-zeros 32 p));
}

-- The state q at t, the sequence's own.
module _ (g : ℕ → ℕ) (n : ℕ) (inside : (t : ℕ) → g t < n) (few : n ≤ 32) (seen : List ℕ) (t : ℕ) (s : Seen g seen t) {q : ℕ} (here : q ≡ g t) where
  distinct : (a b : ℕ) → a < b → b < t → g a ≡ g b → ⊥
  distinct a b h l e = omega (arith, sym (s.noted a (omega arith)) ∙ (ap (λ (p : ℕ). get_or seen p 0) e ∙ s.noted b l))

  module _ (new : get_or seen q 0 ≡ 0) where
    fresh : (a : ℕ) → a < t → g a ≡ q → ⊥
    fresh a h e = omega (arith, sym (s.noted a h) ∙ (ap (λ (p : ℕ). get_or seen p 0) e ∙ new))

    -- a new state is one of the n that are left
    pub room : t < n
    room = by (dec_lt t n)
      where
        r : Repeat g n
        r = pigeonhole n g (λ i h. inside i)

        by : Dec (t < n) → t < n
        by (yes h) = h
        by (no h) = or (dec_lt r.b t)
          where
            or : Dec (r.b < t) → t < n
            or (yes l) = absurd (distinct r.a r.b r.rises l r.same)
            or (no l) =
                let e : r.b ≡ t = omega (arith, r.upto) in
                absurd (fresh r.a (omega (arith, r.rises)) (r.same ∙ (ap g e ∙ sym here)))

    pub seen_more : Seen g (set seen q (t + 1)) (t + 1)
    seen_more = record { long = length-set seen q (t + 1) ∙ s.long; noted = noted; only = only }
      where
        own : get_or (set seen q (t + 1)) q 0 ≡ t + 1
        own = get_or-set_same seen q (t + 1) 0 (omega (arith, here, inside t, s.long))

        noted : (a : ℕ) → a < t + 1 → get_or (set seen q (t + 1)) (g a) 0 ≡ a + 1
        noted a h = by (ℕ_discrete a t)
          where
            by : Dec (a ≡ t) → get_or (set seen q (t + 1)) (g a) 0 ≡ a + 1
            by (yes e) = ap (λ (p : ℕ). get_or (set seen q (t + 1)) p 0) (ap g e ∙ sym here) ∙ (own ∙ ap (λ (x : ℕ). x + 1) (sym e))
            by (no e) =
                let l : a < t = omega arith in
                get_or-set_other seen q (g a) (t + 1) 0 (fresh a l) ∙ s.noted a l

        only : (p : ℕ) → (get_or (set seen q (t + 1)) p 0 ≡ 0 → ⊥) → (a : ℕ) × (a < t + 1) × (get_or (set seen q (t + 1)) p 0 ≡ a + 1) × (g a ≡ p)
        only p h = by (ℕ_discrete p q)
          where
            by : Dec (p ≡ q) → (a : ℕ) × (a < t + 1) × (get_or (set seen q (t + 1)) p 0 ≡ a + 1) × (g a ≡ p)
            by (yes e) = (t, omega arith, ap (λ (x : ℕ). get_or (set seen q (t + 1)) x 0) e ∙ own, sym (e ∙ here))
            by (no e) =
                let d : get_or (set seen q (t + 1)) p 0 ≡ get_or seen p 0 = get_or-set_other seen q p (t + 1) 0 e in
                let o = s.only p (λ z. h (d ∙ z)) in
                (o.0, omega (arith, o.1), d ∙ o.2, o.3)

  pub seen-returns : Follows g → (get_or seen q 0 ≡ 0 → ⊥) → Returned g n t (get_or seen q 0) q
  seen-returns follows old = record {
    some = omega (arith, o.2);
    upto = omega (arith, o.1, o.2);
    first = a-is ∙ sym r.0;
    second = ap (λ (x : ℕ). t - x) a-is ∙ sym r.1;
    stands = sym o.3 ∙ ap g (sym r.0);
  }
    where
      o : (a : ℕ) × (a < t) × (get_or seen q 0 ≡ a + 1) × (g a ≡ q)
      o = s.only q old

      a-is : get_or seen q 0 - 1 ≡ o.0
      a-is = omega (arith, o.2)

      whole : o.0 + (t - o.0) ≡ t
      whole = omega (arith, o.1)

      r : (returning n g ≡ o.0) × (return_from n g (returning n g) ≡ t - o.0)
      r = first-return n g follows inside o.0 (t - o.0) (omega (arith, o.1)) (o.3 ∙ (here ∙ ap g (sym whole))) (λ a b h l. distinct a b h (omega (arith, whole)))
