-- The rounds of the search, one for each leading state, over a family. Assumes nothing.
use mathlib.Core.Path.{◌≡◌, refl, ap, sym, subst, ◌∙◌}
use mathlib.Core.List.{List, ◌++◌}
use mathlib.Core.Logic.{◌⊎◌, inl, inr}
use Prim.Native.Nat.{ℕ, ◌+◌, ◌-◌, ◌≤◌, ◌<◌}
use native.Mathlib.Omega.{arith}
use native.Mathlib.Decide.{dec_lt}
use lib.ListN.{length, take, drop, length-append, length-drop}
use lib.Seq.{length-take-le, take_at, drop_at}
use Rattle.slices.proofs.Filling.{rest-lent}
use Rattle.fdfa.specs.Family.{Fdfa}
use Rattle.search.specs.Words.{Word, ◌⊏◌, ◌⊑◌, same, less, run}
use Rattle.search.specs.Queue.{state_at}
use Rattle.search.specs.Search.{Space, Ends, joint, Ready}
use Rattle.search.proofs.Shortlex.{⊑_trans}
use Rattle.lasso_search.specs.Codes.{AcceptedPeriod, AcceptedWords, FirstAt, Tabulated, Round}
use Rattle.lasso_search.proofs.Joined.{aim_at, ending, ending-first, no-ending}

-- the cells behind the first n, as they are lent and come back
module _ (n : ℕ) (work : List ℕ) (h : n ≤ length work) where
  pub tail-is : take (length work - n) (drop n work) ≡ drop n work
  tail-is = rest-lent work n

  pub tail-long : length (take (length work - n) (drop n work)) ≡ length work - n
  tail-long = ap length tail-is ∙ length-drop n work

  abbrev returned : List ℕ → List ℕ
  returned ys = take n work ++ (ys ++ drop (length work - n) (drop n work))

  pub returned-front : (ys : List ℕ) → take n (returned ys) ≡ take n work
  returned-front ys = take_at (take n work) (ys ++ drop (length work - n) (drop n work)) n (length-take-le n work h)

  module _ (ys : List ℕ) (l : length ys ≡ length (take (length work - n) (drop n work))) where
    pub returned-long : length (returned ys) ≡ length work
    returned-long =
        rw (length-append (take n work) (ys ++ drop (length work - n) (drop n work)), length-append ys (drop (length work - n) (drop n work)), length-drop (length work - n) (drop n work), length-drop n work, length-take-le n work h)
        (omega (arith, l, tail-long))

    pub returned-tail : take (length work - n) (drop n (returned ys)) ≡ ys
    returned-tail = ap (take (length work - n)) (drop_at (take n work) _ n (length-take-le n work h)) ∙ take_at ys _ (length work - n) (l ∙ tail-long)

module _ {P : Fdfa} {front : List ℕ} {reached i : ℕ} (O : Round P front reached i) where
  pub round-in : {q : ℕ} → i < reached → q ≡ state_at 0 front i → q < P.states
  round-in h e = rw (e, O.leads.states i h) (O.leads.inside i h)

  pub round-next : {q : ℕ} → i < reached → q ≡ state_at 0 front i → ((v : Word) → AcceptedPeriod P q v → ⊥) → Round P front reached (i + 1)
  round-next {q} h e no_loop = record { leads = O.leads; upto = omega arith; none = λ j l v t. by j (dec_lt j i) (omega arith) v t }
    where
      by : (j : ℕ) → Dec (j < i) → j ≤ i → (v : Word) → AcceptedPeriod P (state_at 0 front j) v → ⊥
      by j (yes d) b v t = O.none j d v t
      by j (no d) b v t =
          let z : j ≡ i = omega arith in
          no_loop v (subst (λ (y : ℕ). AcceptedPeriod P y v) (ap (state_at 0 front) z ∙ sym e) t)

  -- a lasso's prefix leads to a state from i on, by a code with no later word
  opens : (u v : Word) → AcceptedWords P u v → (j : ℕ) × (j < reached) × (i ≤ j) × (O.leads.W j ⊑ u)
  opens u v w =
      let a = O.leads.all u w.over in
      (a.0, a.1, late a.0 (λ l. O.none a.0 l v (subst (λ (y : ℕ). AcceptedPeriod P y v) (sym (O.leads.states a.0 a.1 ∙ a.2)) w.turn)), a.3)
    where
      late : (j : ℕ) → (j < i → ⊥) → i ≤ j
      late j no_less = by (dec_lt j i)
        where
          by : Dec (j < i) → i ≤ j
          by (yes d) = absurd (no_less d)
          by (no d) = omega arith

  pub round-none : reached ≤ i → (u v : Word) → AcceptedWords P u v → ⊥
  round-none h u v w = let o = opens u v w in omega (arith, o.1, o.2)

module _ (P : Fdfa) {leads rows : List ℕ} {k q : ℕ} (L : Tabulated leads P.states P.letters P.step) (R : Tabulated rows k P.letters (P.progress q)) (qn : q < P.states) (rk : 0 < k) where
  some : 0 < P.states
  some = omega arith

  abbrev J : Space
  J = joint leads rows P.states P.letters q (aim_at P.states q k (P.accepting q))

  -- the search from q is exhausted
  pub exhausted : {status cells : List ℕ} {total head : ℕ} → Ready leads rows P.states P.letters q status cells total head (aim_at P.states q k (P.accepting q)) → total ≤ head → (v : Word) → AcceptedPeriod P q v → ⊥
  exhausted A done v l = no-ending L R some qn rk (P.accepting q) A.bounded A.search done v l.over l.loops l.back l.accepts

  -- an ending is the first accepted loop at q
  loop-of : {cells : List ℕ} {code : ℕ} (E : Ends J cells code) → AcceptedPeriod P q E.word
  loop-of E = let f = ending L R some qn rk (P.accepting q) E in record { over = E.over; loops = E.some; back = f.0; accepts = f.1 }

  pub located : {work : List ℕ} {reached i code : ℕ} → Round P (take (P.states - 1) work) reached i → i < reached → q ≡ state_at 0 (take (P.states - 1) work) i → P.states - 1 ≤ length work
      → Ends J (drop (P.states - 1) work) code → FirstAt (AcceptedWords P) P.states work (record { prefix = i; period = code })
  located {work} {reached} {i} {code} O here e fits E = record {
    u = u;
    v = E.word;
    u_in = omega (arith, O.leads.most);
    v_in = omega (arith, E.inside, length-drop (P.states - 1) work);
    u_path = O.leads.paths i here;
    v_path = E.path;
    first = record {
      is = record { over = O.leads.over i here; turn = subst (λ (y : ℕ). AcceptedPeriod P y E.word) q-is (loop-of E) };
      least = λ u' v' w. let o = opens O u' v' w in decide u' v' (⊑_trans (O.leads.rises i o.0 o.2 o.1) o.3) w.turn;
    };
  }
    where
      u : Word
      u = O.leads.W i

      q-is : q ≡ run P.step 0 (O.leads.W i)
      q-is = e ∙ O.leads.states i here

      decide : (u' v' : Word) → O.leads.W i ⊑ u' → AcceptedPeriod P (run P.step 0 u') v' → (O.leads.W i ⊏ u') ⊎ ((O.leads.W i ≡ u') × (E.word ⊑ v'))
      decide u' v' (less l) t = inl l
      decide u' v' same t =
          let t' : AcceptedPeriod P q v' = subst (λ (y : ℕ). AcceptedPeriod P y v') (sym q-is) t in
          inr (refl, ending-first L R some qn rk (P.accepting q) E v' t'.over t'.loops t'.back t'.accepts)
