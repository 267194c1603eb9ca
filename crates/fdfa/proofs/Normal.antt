-- The normalization of a lasso: what i, j, q and the verdict are, for lassos of every length. Assumes nothing.
use mathlib.Core.Path.{◌≡◌, ap, sym, subst, ◌∙◌}
use mathlib.Core.List.{List, ◌++◌, append-nil}
use Prim.Native.Nat.{ℕ, ◌+◌, ◌≤◌, ◌<◌}
use native.Mathlib.Omega.{arith}
use Rattle.fdfa.specs.Words.{power}
use Rattle.fdfa.specs.Family.{Fdfa, Complete, walk, Lasso}
use Rattle.fdfa.specs.Normalization.{Smallest, after, preperiod, period_count, Normalized}
use Rattle.fdfa.specs.Acceptance.{loop_state, end_state, accepts}
use Rattle.fdfa.proofs.Words.{over-append, over-power, power-one, power-on, lasso-power, walk-append, walk-closed}
use Rattle.fdfa.proofs.Returns.{Follows, smallest, few}

-- u and a turns, then k more
pub after-add : (F : Fdfa) (u v : List ℕ) (a k : ℕ) → after F u v (a + k) ≡ walk F.step (after F u v a) (power v k)
after-add F u v a k =
    ap (walk F.step 0) (sym (power-on u v a k)) ∙ walk-append F.step 0 (u ++ power v a) (power v k)

pub after_next : (F : Fdfa) (u v : List ℕ) (t : ℕ) {q : ℕ} → q ≡ after F u v t → walk F.step q v ≡ after F u v (t + 1)
after_next F u v t e = ap (λ (q : ℕ). walk F.step q v) e ∙ sym (after-add F u v t 1 ∙ ap (walk F.step (after F u v t)) (power-one v))

pub after_none : (F : Fdfa) (u v : List ℕ) → after F u v 0 ≡ walk F.step 0 u
after_none F u v = ap (walk F.step 0) (append-nil u)

pub after_one : (F : Fdfa) (u v : List ℕ) → after F u v 1 ≡ walk F.step (walk F.step 0 u) v
after_one F u v = ap (λ (w : List ℕ). walk F.step 0 (u ++ w)) (power-one v) ∙ walk-append F.step 0 u v

module _ (F : Fdfa) (complete : Complete F) (u v : List ℕ) (lasso : Lasso F.letters u v) where
  pub follows : Follows (after F u v)
  follows a b k e =
      after-add F u v a k ∙ (ap (λ (q : ℕ). walk F.step q (power v k)) e ∙ sym (after-add F u v b k))

  pub inside : (t : ℕ) → after F u v t < F.states
  inside t = walk-closed complete.leads complete.start (over-append lasso.prefix (over-power t lasso.period))

  -- i and j exist, and each is the smallest by itself
  pub normal : Smallest (after F u v) (preperiod F u v) (period_count F u v)
  normal = smallest F.states (after F u v) follows inside

  pub few-turns : preperiod F u v + period_count F u v ≤ F.states
  few-turns = few F.states (after F u v) follows inside

  -- a lasso is normalized exactly if one turn leads back
  pub back-normalized : walk F.step (walk F.step 0 u) v ≡ walk F.step 0 u → Normalized F u v
  back-normalized e = record { no_preperiod = omega (arith, normal.least_i 0 1 (omega arith) once); one_turn = omega (arith, normal.least_j 0 1 (omega arith) once, normal.positive) }
    where
      once : after F u v 0 ≡ after F u v (0 + 1)
      once = after_none F u v ∙ (sym e ∙ sym (after_one F u v))

  pub normalized-back : Normalized F u v → walk F.step (walk F.step 0 u) v ≡ walk F.step 0 u
  normalized-back c =
      let same : after F u v 0 ≡ after F u v (0 + 1) =
      subst (λ (j : ℕ). after F u v 0 ≡ after F u v (0 + j)) c.one_turn
      (subst (λ (i : ℕ). after F u v i ≡ after F u v (i + period_count F u v)) c.no_preperiod normal.same) in
      sym (after_one F u v) ∙ (sym same ∙ after_none F u v)

  lasso' : Lasso F.letters (u ++ power v (preperiod F u v)) (power v (period_count F u v))
  lasso' = lasso-power lasso (preperiod F u v) (period_count F u v) normal.positive

-- the verdict of a normalized lasso: one turn in the progress automaton of the state after u
pub normalized-loop : (F : Fdfa) (u v : List ℕ) → Normalized F u v → loop_state F u v ≡ walk F.step 0 u
normalized-loop F u v c = ap (after F u v) c.no_preperiod ∙ after_none F u v

pub normalized-end : (F : Fdfa) (u v : List ℕ) → Normalized F u v → end_state F u v ≡ walk (F.progress (walk F.step 0 u)) 0 v
normalized-end F u v c =
    ap (λ (q : ℕ). walk (F.progress q) 0 (power v (period_count F u v))) (normalized-loop F u v c)
    ∙ ap (walk (F.progress (walk F.step 0 u)) 0) (ap (power v) c.one_turn ∙ power-one v)

pub normalized-accepts : (F : Fdfa) (u v : List ℕ) → Normalized F u v
    → accepts F u v ≡ F.accepting (walk F.step 0 u) (walk (F.progress (walk F.step 0 u)) 0 v)
normalized-accepts F u v c =
    ap (λ (p : ℕ). F.accepting (loop_state F u v) p) (normalized-end F u v c)
    ∙ ap (λ (q : ℕ). F.accepting q (walk (F.progress (walk F.step 0 u)) 0 v)) (normalized-loop F u v c)

-- The normalization (u vⁱ, vʲ) of a lasso: a lasso that is normalized, with the same verdict.
pub record Normalization (F : Fdfa) (u v x y : List ℕ) : Type 0 where
  pub lasso : Lasso F.letters x y
  pub closes : Normalized F x y
  pub agrees : accepts F x y ≡ accepts F u v

pub normalization : (F : Fdfa) → Complete F → (u v : List ℕ) → Lasso F.letters u v
    → Normalization F u v (u ++ power v (preperiod F u v)) (power v (period_count F u v))
normalization F complete u v lasso = record { lasso = l; closes = c; agrees = normalized-accepts F x y c }
  where
    x : List ℕ
    x = u ++ power v (preperiod F u v)

    y : List ℕ
    y = power v (period_count F u v)

    l : Lasso F.letters x y
    l = lasso' F complete u v lasso

    c : Normalized F x y
    c = back-normalized F complete x y l
        (sym (after-add F u v (preperiod F u v) (period_count F u v)) ∙ sym (normal F complete u v lasso).same)
