-- Emptiness: the search by enumeration, up to 01's bounds, answers for lassos of every length. Assumes nothing.
use mathlib.Core.Path.{◌≡◌, refl, ap, ap₂, sym, subst, ◌∙◌}
use mathlib.Core.Bool.{Bool, true, ◌&&◌}
use mathlib.Core.List.{List, [], ◌++◌}
use mathlib.Core.Logic.{◌⊎◌, inl, inr}
use Prim.Native.Nat.{ℕ, ◌+◌, ◌*◌, ◌≤◌, ◌<◌}
use native.Mathlib.Omega.{arith}
use native.Mathlib.Nat.{le_trans, mul-le-mul_left}
use lib.Arith.{digits_lt}
use lib.ListN.{length}
use lib.Dec.{eqb}
use borrow.Author.Tests.{eq-eqb, eqb-true}
use Rattle.fdfa.specs.Words.{Over, power, Shortlex, Before, by_prefix, by_period}
use Rattle.fdfa.specs.Family.{Fdfa, Complete, walk, Lasso}
use Rattle.fdfa.specs.Normalization.{preperiod, period_count, Normalized}
use Rattle.fdfa.specs.Acceptance.{accepts}
use Rattle.fdfa.specs.Boolean.{beside}
use Rattle.fdfa.specs.Enumeration.{Witness, absent, lasso, first_lasso_of}
use Rattle.fdfa.specs.Inclusion.{First, Answers, none_has, first_is, normalized, widest, Accepted, emptiness}
use Rattle.slices.proofs.Extremes.{largest-le}
use Rattle.slices.proofs.Tests.{and_left, and_right, both}
use Rattle.fdfa.proofs.Words.{walk-closed}
use Rattle.fdfa.proofs.Order.{before-irrefl, before-trans}
use Rattle.fdfa.proofs.Normal.{back-normalized, normalized-back, normalized-accepts, normalization}
use Rattle.fdfa.proofs.Product.{beside-closed, beside-walk, pair_parts}
use Rattle.fdfa.proofs.Enumerated.{Upto, same, later, Ranges, FindsLasso, has, lacks, lasso-first}
use Rattle.fdfa.proofs.Pumping.{Short, short, ShortTurn, short-turn}

-- Two answers to one question are the same answer.
pub answers-unique : {P : List ℕ → List ℕ → Type 0} {w w' : Witness} → Answers P w → Answers P w' → w ≡ w'
answers-unique (none_has n) (none_has m) = refl
answers-unique (none_has n) (first_is f) = absurd (n _ _ f.has)
answers-unique (first_is f) (none_has n) = absurd (n _ _ f.has)
answers-unique (first_is {u = u} {v = v} f) (first_is {u = u'} {v = v'} g) = by (f.least u' v' g.has) (g.least u v f.has)
  where
    by : ((u ≡ u') × (v ≡ v')) ⊎ Before u v u' v' → ((u' ≡ u) × (v' ≡ v)) ⊎ Before u' v' u v → lasso u v ≡ lasso u' v'
    by (inl e) r = ap₂ lasso e.0 e.1
    by (inr b) (inl e) = ap₂ lasso (sym e.0) (sym e.1)
    by (inr b) (inr c) = absurd (before-irrefl (before-trans b c))

-- The same answer for properties that hold of the same lassos.
pub answers-map : {P Q : List ℕ → List ℕ → Type 0} {w : Witness} → ((u v : List ℕ) → P u v → Q u v) → ((u v : List ℕ) → Q u v → P u v) → Answers P w → Answers Q w
answers-map to from (none_has n) = none_has (λ u v q. n u v (from u v q))
answers-map to from (first_is {u = u} {v = v} f) = first_is (record { has = to u v f.has; least = λ u' v' q. f.least u' v' (from u' v' q) })

-- What an answer says: that there is no such lasso, or the first.
pub answers-none : {P : List ℕ → List ℕ → Type 0} → Answers P absent → (u v : List ℕ) → P u v → ⊥
answers-none (none_has n) = n

pub answers-first : {P : List ℕ → List ℕ → Type 0} {u v : List ℕ} → Answers P (lasso u v) → First P u v
answers-first (first_is f) = f

upto_before : {u v u' v' u'' v'' : List ℕ} → ((u ≡ u'') × (v ≡ v'')) ⊎ Before u v u'' v'' → Upto u'' u' → Upto v'' v' → ((u ≡ u') × (v ≡ v')) ⊎ Before u v u' v'
upto_before (inl e) (same p) (same q) = inl (e.0 ∙ p, e.1 ∙ q)
upto_before {v' = v'} (inl e) (same p) (later q) = inr (by_period (e.0 ∙ p) (subst (λ (x : List ℕ). Shortlex x v') (sym e.1) q))
upto_before {u' = u'} (inl e) (later p) q = inr (by_prefix (subst (λ (x : List ℕ). Shortlex x u') (sym e.0) p))
upto_before {u} {v} {u'} {v'' = v''} (inr b) (same p) (same q) =
    inr (subst (λ (x : List ℕ). Before u v u' x) q (subst (λ (x : List ℕ). Before u v x v'') p b))
upto_before (inr b) (same p) (later q) = inr (before-trans b (by_period p q))
upto_before (inr b) (later p) q = inr (before-trans b (by_prefix p))

some_letters : (v : List ℕ) → 1 ≤ length v → v ≡ [] → ⊥
some_letters v h e = let z : length v ≡ 0 = ap length e in omega arith

module _ (F : Fdfa) (complete : Complete F) where
  -- an accepted and normalized lasso, by its walks alone
  pub record Walks (u v : List ℕ) : Type 0 where
    pub lasso : Lasso F.letters u v
    pub back : walk F.step (walk F.step 0 u) v ≡ walk F.step 0 u
    pub ends : F.accepting (walk F.step 0 u) (walk (F.progress (walk F.step 0 u)) 0 v) ≡ true

  pub walks : (u v : List ℕ) → Accepted F u v → Walks u v
  walks u v a = record {
    lasso = a.lasso;
    back = normalized-back F complete u v a.lasso a.closes;
    ends = sym (normalized-accepts F u v a.closes) ∙ a.accepted;
  }

  pub walked : (u v : List ℕ) → Walks u v → Accepted F u v
  walked u v w = record { lasso = w.lasso; closes = c; accepted = normalized-accepts F u v c ∙ w.ends }
    where
      c : Normalized F u v
      c = back-normalized F complete u v w.lasso w.back

  -- a property of a lasso depends on the prefix only through the state that it leads to
  pub same-prefix : (u u' v : List ℕ) → Over F.letters u' → walk F.step 0 u' ≡ walk F.step 0 u → Accepted F u v → Accepted F u' v
  same-prefix u u' v o e a = walked u' v (record {
    lasso = record { prefix = o; period = w.lasso.period; loops = w.lasso.loops };
    back = rw e w.back;
    ends = rw e w.ends;
  })
    where
      w : Walks u v
      w = walks u v a

  module _ (K : ℕ) (widest : (q : ℕ) → q < F.states → F.size q ≤ K) where
    -- a lasso within the bounds that is the given one or comes before it
    record Bounded (u v : List ℕ) : Type 0 where
      pub x : List ℕ
      pub y : List ℕ
      pub accepted : Accepted F x y
      pub x_few : length x < F.states
      pub y_some : 1 ≤ length y
      pub y_few : length y ≤ F.states * K
      pub x_early : Upto x u
      pub y_early : Upto y v

    bounded : (u v : List ℕ) → Accepted F u v → Bounded u v
    bounded u v a = record {
      x = r.by;
      y = t.by;
      accepted = same-prefix u r.by t.by r.over r.goes (walked u t.by turned);
      x_few = r.few;
      y_some = t.some;
      y_few = le_trans t.few (mul-le-mul_left F.states (widest q q-below));
      x_early = r.early;
      y_early = t.early;
    }
      where
        w : Walks u v
        w = walks u v a

        q : ℕ
        q = walk F.step 0 u

        q-below : q < F.states
        q-below = walk-closed complete.leads complete.start w.lasso.prefix

        r : Short F.letters F.states F.step 0 u
        r = short F.letters F.states F.step complete.leads 0 complete.start u w.lasso.prefix

        -- the combinations of a leading state and a state of q's progress automaton
        k : ℕ
        k = F.size q

        joint : ℕ → ℕ → ℕ
        joint = beside k F.step (F.progress q)

        t : ShortTurn F.letters (F.states * k) joint (q * k + 0) v
        t = short-turn F.letters (F.states * k) joint
            (beside-closed (complete.starts q q-below) complete.leads (complete.progresses q q-below))
            (q * k + 0) (digits_lt q-below (complete.starts q q-below)) v w.lasso.loops w.lasso.period

        ends : (walk F.step q t.by ≡ walk F.step q v) × (walk (F.progress q) 0 t.by ≡ walk (F.progress q) 0 v)
        ends = pair_parts (walk F.step q t.by) (walk F.step q v)
            (walk-closed (complete.progresses q q-below) (complete.starts q q-below) t.over)
            (walk-closed (complete.progresses q q-below) (complete.starts q q-below) w.lasso.period)
            (sym (beside-walk F.step (F.progress q) (complete.progresses q q-below) q 0 (complete.starts q q-below) t.over)
            ∙ (t.goes ∙ beside-walk F.step (F.progress q) (complete.progresses q q-below) q 0 (complete.starts q q-below) w.lasso.period))

        turned : Walks u t.by
        turned = record {
          lasso = record { prefix = w.lasso.prefix; period = t.over; loops = some_letters t.by t.some };
          back = ends.0 ∙ w.back;
          ends = ap (F.accepting q) ends.1 ∙ w.ends;
        }

    -- The search up to the bounds answers for all lassos, by any test that says of a lasso whether it is one.
    module _ (p : List ℕ → List ℕ → Bool) (sound : (u v : List ℕ) → Lasso F.letters u v → p u v ≡ true → Accepted F u v)
        (passes : (u v : List ℕ) → Accepted F u v → p u v ≡ true) where
      within : {u v : List ℕ} (b : Bounded u v) → Ranges F.letters 0 F.states b.x × Ranges F.letters 1 (F.states * K) b.y
      within b = (
        record { over = b.accepted.lasso.prefix; from = omega arith; to = omega (arith, b.x_few) },
        record { over = b.accepted.lasso.period; from = b.y_some; to = omega (arith, b.y_few) },
      )

      from-search : {w : Witness} → FindsLasso (Ranges F.letters 0 F.states) (Ranges F.letters 1 (F.states * K)) p w → Answers (Accepted F) w
      from-search (lacks never) = none_has (λ u v a.
          let b = bounded u v a in never b.x b.y (within b).0 (within b).1 (passes b.x b.y b.accepted))
      from-search (has {u = u} {v = v} i j e least) = first_is (record {
        has = sound u v (record { prefix = i.over; period = j.over; loops = some_letters v j.from }) e;
        least = λ u' v' a.
            let b = bounded u' v' a in
            upto_before (least b.x b.y (within b).0 (within b).1 (passes b.x b.y b.accepted)) b.x_early b.y_early;
      })

      pub search-answers : Answers (Accepted F) (first_lasso_of F.letters F.states (F.states * K) p)
      search-answers = from-search (lasso-first F.letters F.states (F.states * K) p)

      pub search-bounds : {u v : List ℕ} → first_lasso_of F.letters F.states (F.states * K) p ≡ lasso u v → (length u < F.states) × (length v ≤ F.states * K)
      search-bounds {u} {v} e = by (subst (FindsLasso (Ranges F.letters 0 F.states) (Ranges F.letters 1 (F.states * K)) p) e (lasso-first F.letters F.states (F.states * K) p))
        where
          by : FindsLasso (Ranges F.letters 0 F.states) (Ranges F.letters 1 (F.states * K)) p (lasso u v) → (length u < F.states) × (length v ≤ F.states * K)
          by (has i j h least) = (omega (arith, i.to), omega (arith, j.to))

pub normalized-says : (F : Fdfa) (u v : List ℕ) → normalized F u v ≡ true → Normalized F u v
normalized-says F u v e = record {
  no_preperiod = eqb-true (preperiod F u v) 0 (and_left (eqb (preperiod F u v) 0) _ e);
  one_turn = eqb-true (period_count F u v) 1 (and_right (eqb (preperiod F u v) 0) _ e);
}

pub normalized-passes : (F : Fdfa) (u v : List ℕ) → Normalized F u v → normalized F u v ≡ true
normalized-passes F u v c =
    both (eqb (preperiod F u v) 0) _ (eq-eqb (preperiod F u v) 0 c.no_preperiod) (eq-eqb (period_count F u v) 1 c.one_turn)

module _ (F : Fdfa) (complete : Complete F) where
  test : List ℕ → List ℕ → Bool
  test u v = normalized F u v && accepts F u v

  test-sound : (u v : List ℕ) → Lasso F.letters u v → test u v ≡ true → Accepted F u v
  unfolding test
  test-sound u v l e = record {
    lasso = l;
    closes = normalized-says F u v (and_left (normalized F u v) (accepts F u v) e);
    accepted = and_right (normalized F u v) (accepts F u v) e;
  }

  test-passes : (u v : List ℕ) → Accepted F u v → test u v ≡ true
  unfolding test
  test-passes u v a = both (normalized F u v) (accepts F u v) (normalized-passes F u v a.closes) a.accepted

  pub emptiness-answers : Answers (Accepted F) (emptiness F).witness
  unfolding test
  emptiness-answers = search-answers F complete (widest F) (largest-le F.states F.size) test test-sound test-passes

  -- 01's bounds: fewer than n letters, and at most n × K
  pub emptiness-bounds : {u v : List ℕ} → (emptiness F).witness ≡ lasso u v → (length u < F.states) × (length v ≤ F.states * widest F)
  unfolding test
  emptiness-bounds = search-bounds F complete (widest F) (largest-le F.states F.size) test test-sound test-passes

  -- every accepted lasso gives an accepted one that is normalized
  pub accepted-normalized : (u v : List ℕ) → Lasso F.letters u v → accepts F u v ≡ true → Accepted F (u ++ power v (preperiod F u v)) (power v (period_count F u v))
  accepted-normalized u v l e =
      let n = normalization F complete u v l in
      record { lasso = n.lasso; closes = n.closes; accepted = n.agrees ∙ e }

  -- empty exactly if no lasso at all is accepted, turn_proof or not
  pub empty-none : (emptiness F).witness ≡ absent → (u v : List ℕ) → Lasso F.letters u v → accepts F u v ≡ true → ⊥
  empty-none e u v l a = answers-none (subst (Answers (Accepted F)) e emptiness-answers) _ _ (accepted-normalized u v l a)

  pub none-empty : ((u v : List ℕ) → Lasso F.letters u v → accepts F u v ≡ true → ⊥) → (emptiness F).witness ≡ absent
  none-empty n = answers-unique emptiness-answers (none_has (λ u v a. n u v a.lasso a.accepted))
