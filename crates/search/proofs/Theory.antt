-- The theory of a breadth-first search: each word leads to a state that was found by no later word, or some letter that was not yet
-- tried leads to a word no later. Assumes nothing.
use mathlib.Core.Path.{◌≡◌, ap, subst, ◌∙◌}
use Prim.Native.Nat.{ℕ, ◌+◌, ◌*◌, ◌≤◌, ◌<◌}
use mathlib.Core.List.{List}
use native.Mathlib.Omega.{arith}
use native.Mathlib.Decide.{dec_lt}
use Rattle.search.specs.Words.{Word, ε, ◌·◌, ◌⊑◌, front, last, less, Over}
use Rattle.search.specs.Search.{Space, reach, Bounded, Hit, Search}
use Rattle.search.proofs.Shortlex.{⊑⊏, ⊑_trans, grows, ⊑-snoc, ⊑-of-eq}

data Found (P : Space) (lo total done : ℕ) (W : ℕ → Word) (w : Word) : Type 0 where
  hit : Hit P lo total W (reach P w) w → Found P lo total done W w
  ahead : (j c : ℕ) → j < total → c < 32 → done ≤ j * 32 + c → W j · c ⊑ w → Found P lo total done W w

module _ {P : Space} (B : Bounded P) {status cells : List ℕ} {total head b : ℕ} (S : Search P status cells total head b) where
  abbrev done : ℕ
  done = head * 32 + b

  weaken : {w : Word} → Found P P.lo total done S.W w → Found P 0 total done S.W w
  weaken (hit h) = hit (record { at = h.at; from = omega arith; below = h.below; state = h.state; early = h.early })
  weaken (ahead j c p q r e) = ahead j c p q r e

  extend : (w : Word) (a : ℕ) → a < P.letters → Found P 0 total done S.W w → Found P P.lo total done S.W (w · a)
  extend w a l (ahead j c p q r e) = ahead j c p q r (less (⊑⊏ e (grows w a)))
  extend w a l (hit h) = by (dec_lt (h.at * 32 + a) done)
    where
      by : Dec (h.at * 32 + a < done) → Found P P.lo total done S.W (w · a)
      by (yes d) =
          let g = S.closed h.at a h.below l d in
          hit (record { at = g.at; from = g.from; below = g.below; state = g.state ∙ ap (λ (x : ℕ). P.step x a) h.state; early = ⊑_trans g.early (⊑-snoc a h.early) })
      by (no d) = ahead h.at a h.below (omega (arith, B.few_letters)) (omega arith) (⊑-snoc a h.early)

  key : (w : Word) → Over P.letters w → Found P 0 total done S.W w
  key ε o = hit (record { at = 0; from = omega arith; below = S.some; state = ap (reach P) S.start; early = ⊑-of-eq S.start })
  key (w · a) o = weaken (extend w a o.1 (key w o.0))

  reached : (w : Word) (a : ℕ) → Over P.letters (w · a) → Found P P.lo total done S.W (w · a)
  reached w a o = extend w a o.1 (key w o.0)

  -- no state that was met ends the search
  calm-hit : {w : Word} → Hit P P.lo total S.W (reach P w) w → P.fresh (reach P w) ≡ 2 → ⊥
  calm-hit h e = omega (arith, S.calm h.at h.from h.below, ap P.fresh h.state, e)

  -- the next letter that is tried leads to a word no later than one that ends the search
  pub next-first : head < total → (w : Word) → Over P.letters w → (w ≡ ε → ⊥) → P.fresh (reach P w) ≡ 2 → S.W head · b ⊑ w
  next-first hd ε o ne e = absurd (ne (λ i. ε))
  next-first hd (w · a) o ne e = by (reached w a o)
    where
      by : Found P P.lo total done S.W (w · a) → S.W head · b ⊑ w · a
      by (hit h) = absurd (calm-hit h e)
      by (ahead j c p q r l) = ⊑_trans (or (dec_lt head j) (dec_lt b c)) l
        where
          or : Dec (head < j) → Dec (b < c) → S.W head · b ⊑ S.W j · c
          or (yes d) z = less (front (S.rising head j d p))
          or (no d) z = let i : head ≡ j = omega arith in subst (λ (k : ℕ). S.W head · b ⊑ S.W k · c) i (last_of z (omega arith))
            where
              last_of : Dec (b < c) → b ≤ c → S.W head · b ⊑ S.W head · c
              last_of (yes h) m = less (last h)
              last_of (no h) m = ⊑-of-eq (ap (λ (k : ℕ). S.W head · k) (omega arith))

  -- where all is expanded, each word's state is that of a code with no later word
  pub search-all : total ≤ head → (w : Word) → Over P.letters w → Hit P 0 total S.W (reach P w) w
  search-all l w o = by (key w o)
    where
      by : Found P 0 total done S.W w → Hit P 0 total S.W (reach P w) w
      by (hit h) = h
      by (ahead j c p q r e) = absurd (omega arith)

  -- and no word ends the search
  pub search-none : total ≤ head → (w : Word) → Over P.letters w → (w ≡ ε → ⊥) → P.fresh (reach P w) ≡ 2 → ⊥
  search-none l ε o ne e = ne (λ i. ε)
  search-none l (w · a) o ne e = by (reached w a o)
    where
      by : Found P P.lo total done S.W (w · a) → ⊥
      by (hit h) = calm-hit h e
      by (ahead j c p q r z) = omega arith

  pub search-rises : (i j : ℕ) → i ≤ j → j < total → S.W i ⊑ S.W j
  search-rises i j l h = by (dec_lt i j)
    where
      by : Dec (i < j) → S.W i ⊑ S.W j
      by (yes d) = less (S.rising i j d h)
      by (no d) = ⊑-of-eq (ap S.W (omega arith))
