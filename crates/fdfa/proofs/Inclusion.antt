-- Inclusion: the comparison answers for lassos of every length; where both families are turn_proof, of lassos that are not
-- normalized too. Its question is emptiness of a product (002, Proposition 4.6). Assumes nothing.
use mathlib.Core.Path.{◌≡◌, sym, subst, ◌∙◌}
use mathlib.Core.Bool.{Bool, true, false, not, ◌&&◌}
use mathlib.Core.List.{List, ◌++◌}
use Prim.Native.Nat.{ℕ, ◌*◌, ◌/◌, ◌%◌, ◌≤◌, ◌<◌}
use native.Mathlib.Nat.{mul-le-mul, mod-lt}
use lib.ListN.{length}
use Rattle.fdfa.specs.Words.{power}
use Rattle.fdfa.specs.Family.{Fdfa, Complete, Lasso}
use Rattle.fdfa.specs.Normalization.{preperiod, period_count, Normalized}
use Rattle.fdfa.specs.Acceptance.{accepts}
use Rattle.fdfa.specs.Boolean.{product}
use Rattle.fdfa.specs.Invariance.{TurnProof}
use Rattle.fdfa.specs.Enumeration.{absent, lasso}
use Rattle.fdfa.specs.Inclusion.{Counterexample, Answers, none_has, normalized, counters, widest, pairs, combinations, comparison, Accepted}
use Rattle.slices.proofs.Tests.{and_left, and_right, both, not-of, of-not}
use Rattle.fdfa.proofs.Normal.{normal, Normalization, normalization}
use Rattle.fdfa.proofs.Product.{left_below, product-complete, product-parts, product-normalized, product-closing}
use Rattle.slices.proofs.Extremes.{largest-le}
use Rattle.fdfa.proofs.Emptiness.{answers-unique, answers-map, answers-none, normalized-says, normalized-passes, search-answers, search-bounds}

-- accepted by the first and rejected by the second
abbrev pub but_not : Bool → Bool → Bool
but_not a b = a && not b

module _ (F G : Fdfa) (alike : F.letters ≡ G.letters) (CF : Complete F) (CG : Complete G) where
  abbrev P : Fdfa
  P = product but_not F G

  CP : Complete P
  CP = product-complete but_not F G alike CF CG

  -- the counterexamples are the accepted and normalized lassos of that product
  pub counterexample-accepted : (u v : List ℕ) → Counterexample F G u v → Accepted P u v
  counterexample-accepted u v c = record {
    lasso = c.lasso;
    closes = product-normalized but_not F G alike CF CG u v c.lasso c.first_closes c.second_closes;
    accepted =
        product-closing but_not F G alike CF CG u v c.lasso c.first_closes c.second_closes
        ∙ both (accepts F u v) (not (accepts G u v)) c.accepted (not-of (accepts G u v) c.rejected);
  }

  pub accepted-counterexample : (u v : List ℕ) → Accepted P u v → Counterexample F G u v
  accepted-counterexample u v a = record {
    lasso = a.lasso;
    first_closes = n.0;
    second_closes = n.1;
    accepted = and_left (accepts F u v) (not (accepts G u v)) e;
    rejected = of-not (accepts G u v) (and_right (accepts F u v) (not (accepts G u v)) e);
  }
    where
      n : Normalized F u v × Normalized G u v
      n = product-parts but_not F G alike CF CG u v a.lasso a.closes

      e : but_not (accepts F u v) (accepts G u v) ≡ true
      e = sym (product-closing but_not F G alike CF CG u v a.lasso n.0 n.1) ∙ a.accepted

  -- the test of the search
  counters-says : (u v : List ℕ) → Lasso F.letters u v → counters F G u v ≡ true → Counterexample F G u v
  counters-says u v l e = record {
    lasso = l;
    first_closes = normalized-says F u v (and_left nf ng (and_left (nf && ng) af closing));
    second_closes = normalized-says G u v (and_right nf ng (and_left (nf && ng) af closing));
    accepted = and_right (nf && ng) af closing;
    rejected = of-not ag (and_right (nf && ng && af) (not ag) e);
  }
    where
      nf : Bool
      nf = normalized F u v

      ng : Bool
      ng = normalized G u v

      af : Bool
      af = accepts F u v

      ag : Bool
      ag = accepts G u v

      closing : nf && ng && af ≡ true
      closing = and_left (nf && ng && af) (not ag) e

  counters-passes : (u v : List ℕ) → Counterexample F G u v → counters F G u v ≡ true
  counters-passes u v c =
      both _ _ (both _ _ (both _ _ (normalized-passes F u v c.first_closes) (normalized-passes G u v c.second_closes)) c.accepted) (not-of _ c.rejected)

  pub widest-pair : (x : ℕ) → x < F.states * G.states → P.size x ≤ widest F * widest G
  widest-pair x h =
      mul-le-mul (largest-le F.states F.size (x / G.states) (left_below CG.start h)) (largest-le G.states G.size (x % G.states) (mod-lt x CG.start))

  says : (u v : List ℕ) → Lasso F.letters u v → counters F G u v ≡ true → Accepted P u v
  says u v l e = counterexample-accepted u v (counters-says u v l e)

  passes : (u v : List ℕ) → Accepted P u v → counters F G u v ≡ true
  passes u v a = counters-passes u v (accepted-counterexample u v a)

  -- contained where there is no counterexample of whatever length, else the first of all
  pub comparison-answers : Answers (Counterexample F G) (comparison F G).witness
  comparison-answers =
      answers-map accepted-counterexample counterexample-accepted
      (search-answers P CP (widest F * widest G) widest-pair (counters F G) says passes)

  -- 01's bounds: fewer than N letters, and at most N × K
  pub comparison-bounds : {u v : List ℕ} → (comparison F G).witness ≡ lasso u v → (length u < pairs F G) × (length v ≤ combinations F G)
  comparison-bounds = search-bounds P CP (widest F * widest G) widest-pair (counters F G) says passes

  -- where no lasso at all is accepted by the first and rejected by the second, it is contained
  pub all-contained : ((u v : List ℕ) → Lasso F.letters u v → accepts F u v ≡ true → accepts G u v ≡ false → ⊥) → (comparison F G).witness ≡ absent
  all-contained n = answers-unique comparison-answers (none_has (λ u v c. n u v c.lasso c.accepted c.rejected))

  module _ (TF : TurnProof F) (TG : TurnProof G) where
    -- a lasso that the first accepts and the second rejects gives a counterexample
    pub turned-counterexample : (u v : List ℕ) → Lasso F.letters u v → accepts F u v ≡ true → accepts G u v ≡ false
        → Counterexample F G (u ++ power v (preperiod P u v)) (power v (period_count P u v))
    turned-counterexample u v l a r = record {
      lasso = n.lasso;
      first_closes = c.0;
      second_closes = c.1;
      accepted = TF u v l (preperiod P u v) (period_count P u v) some ∙ a;
      rejected = TG u v (rw (← alike) l) (preperiod P u v) (period_count P u v) some ∙ r;
    }
      where
        n : Normalization P u v (u ++ power v (preperiod P u v)) (power v (period_count P u v))
        n = normalization P CP u v l

        c : Normalized F (u ++ power v (preperiod P u v)) (power v (period_count P u v)) × Normalized G (u ++ power v (preperiod P u v)) (power v (period_count P u v))
        c = product-parts but_not F G alike CF CG _ _ n.lasso n.closes

        some : 0 < period_count P u v
        some = (normal P CP u v l).positive

    -- and contained means that there is no such lasso at all
    pub contained-all : (comparison F G).witness ≡ absent → (u v : List ℕ) → Lasso F.letters u v → accepts F u v ≡ true → accepts G u v ≡ false → ⊥
    contained-all e u v l a r = answers-none (subst (Answers (Counterexample F G)) e comparison-answers) _ _ (turned-counterexample u v l a r)
