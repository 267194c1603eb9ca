-- Families that agree on their states and letters give every lasso the same verdict, and are turn_proof together. Assumes nothing.
use mathlib.Core.Path.{◌≡◌, refl, ap, sym, subst, ◌∙◌}
use mathlib.Core.List.{List, ◌++◌}
use Prim.Native.Nat.{ℕ, ◌<◌}
use Rattle.fdfa.specs.Words.{Over, done, below, power}
use Rattle.fdfa.specs.Family.{Fdfa, Closed, Complete, walk, Lasso, Agrees}
use Rattle.fdfa.specs.Normalization.{return_from, returning, after, preperiod, period_count}
use Rattle.fdfa.specs.Acceptance.{loop_state, end_state, accepts, Verdict, verdict}
use Rattle.fdfa.specs.Invariance.{TurnProof}
use Rattle.fdfa.proofs.Words.{over-append, over-power, lasso-power, walk-closed}
use Rattle.fdfa.proofs.Normal.{inside}

pub walk_same : {s n : ℕ} {f g : ℕ → ℕ → ℕ} → Closed s n f → ((q a : ℕ) → q < n → a < s → f q a ≡ g q a) → (q : ℕ) → q < n → {w : List ℕ} → Over s w → walk f q w ≡ walk g q w
walk_same c e q h done = refl
walk_same {f = f} {g = g} c e q h (below {a = a} {w = w} l o) =
    walk_same c e (f q a) (c q a h l) o ∙ ap (λ (x : ℕ). walk g x w) (e q a h l)

module _ (F G : Fdfa) (complete : Complete F) (same : Agrees F G) (u v : List ℕ) (lasso : Lasso F.letters u v) where
  after_same : (i : ℕ) → after F u v i ≡ after G u v i
  after_same i = walk_same complete.leads same.steps 0 complete.start (over-append lasso.prefix (over-power i lasso.period))

  preperiod-same : preperiod F u v ≡ preperiod G u v
  preperiod-same = λ i. returning (same.states i) (λ t. after_same t i)

  period-same : period_count F u v ≡ period_count G u v
  period-same = λ i. return_from (same.states i) (λ t. after_same t i) (preperiod-same i)

  loop-same : loop_state F u v ≡ loop_state G u v
  loop-same = λ i. after_same (preperiod-same i) i

  loop-below : loop_state F u v < F.states
  loop-below = inside F complete u v lasso (preperiod F u v)

  end_same : end_state F u v ≡ end_state G u v
  end_same =
      walk_same (complete.progresses (loop_state F u v) loop-below) (λ p a. same.progresses (loop_state F u v) p a loop-below) 0 (complete.starts (loop_state F u v) loop-below)
      (over-power (period_count F u v) lasso.period)
      ∙ (λ i. walk (G.progress (loop-same i)) 0 (power v (period-same i)))

  end_below : end_state F u v < F.size (loop_state F u v)
  end_below =
      walk-closed (complete.progresses (loop_state F u v) loop-below) (complete.starts (loop_state F u v) loop-below) (over-power (period_count F u v) lasso.period)

  accepts-same : accepts F u v ≡ accepts G u v
  accepts-same =
      same.marks (loop_state F u v) (end_state F u v) loop-below end_below ∙ (λ i. G.accepting (loop-same i) (end_same i))

  pub verdict-same : verdict F u v ≡ verdict G u v
  verdict-same = λ i. record { accepted = accepts-same i; i = preperiod-same i; j = period-same i; state = loop-same i; end = end_same i }

-- where the one is turn_proof, so is the other
pub turn-proof-same : (F G : Fdfa) → Complete F → Agrees F G → TurnProof F → TurnProof G
turn-proof-same F G complete same h u v l a b p =
    sym (verdicts (u ++ power v a) (power v b) (lasso-power m a b p)) ∙ (h u v m a b p ∙ verdicts u v m)
  where
    m : Lasso F.letters u v
    m = subst (λ (s : ℕ). Lasso s u v) (sym same.letters) l

    verdicts : (x y : List ℕ) → Lasso F.letters x y → accepts F x y ≡ accepts G x y
    verdicts x y k = ap (λ (z : Verdict). z.accepted) (verdict-same F G complete same x y k)
