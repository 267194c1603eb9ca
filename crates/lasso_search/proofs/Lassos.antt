-- The lassos that the search finds over a family are its accepted and normalized ones. Assumes nothing.
use mathlib.Core.Path.{◌≡◌, refl, ap, sym, subst, ◌∙◌}
use mathlib.Core.List.{List, [], ◌∷◌}
use mathlib.Core.Logic.{◌⊎◌, inl, inr}
use Prim.Native.Nat.{ℕ, suc, ◌<◌}
use native.Mathlib.Omega.{arith}
use lib.ListN.{length}
use Rattle.fdfa.specs.Words as lists
use Rattle.fdfa.specs.Words.{below, Shortlex, Before, by_prefix, by_period}
use Rattle.fdfa.specs.Family.{Fdfa, Complete, walk}
use Rattle.fdfa.specs.Inclusion as model
use Rattle.fdfa.specs.Inclusion.{Accepted}
use Rattle.fdfa.proofs.Words.{over-left, over-right}
use Rattle.fdfa.proofs.Emptiness.{Walks, walks, walked}
use Rattle.search.specs.Words.{Word, ε, ◌·◌, ◌⊏◌, ◌⊑◌, same, less, run, Over, size, letters}
use Rattle.search.proofs.Letters.{letters-over, walk-letters, word, letters-word, length-letters, ordered}
use Rattle.lasso_search.specs.declared.LassoCodes.{LassoCodes}
use Rattle.lasso_search.specs.Codes.{AcceptedWords, FirstWords, FirstAt}

over-letters : {s : ℕ} (w : Word) → lists.Over s (letters w) → Over s w
over-letters ε o = tt
over-letters (w · a) o = (over-letters w (over-left (letters w) (a ∷ []) o), last (over-right (letters w) (a ∷ []) o))
  where
    last : {s a : ℕ} → lists.Over s (a ∷ []) → a < s
    last (below h p) = h

nothing : (w : Word) → letters w ≡ [] → w ≡ ε
nothing ε e = refl
nothing (w · a) e = let z : suc (size w) ≡ 0 = sym (length-letters (w · a)) ∙ ap length e in absurd (omega arith)

module _ (P : Fdfa) (C : Complete P) where
  accepted-lasso : (u v : Word) → Accepted P (letters u) (letters v) → AcceptedWords P u v
  accepted-lasso u v a = record {
    over = over-letters u w.lasso.prefix;
    turn = record {
      over = over-letters v w.lasso.period;
      loops = λ e. w.lasso.loops (ap letters e);
      back = rw (at-u, walk-letters P.step (run P.step 0 u) v) at w.back;
      accepts = rw (at-u, walk-letters (P.progress (run P.step 0 u)) 0 v) at w.ends;
    };
  }
    where
      w : Walks P C (letters u) (letters v)
      w = walks P C (letters u) (letters v) a

      at-u : walk P.step 0 (letters u) ≡ run P.step 0 u
      at-u = walk-letters P.step 0 u

  lasso-accepted : (u v : Word) → AcceptedWords P u v → Accepted P (letters u) (letters v)
  lasso-accepted u v l = walked P C (letters u) (letters v) (record {
    lasso = record { prefix = letters-over u l.over; period = letters-over v l.turn.over; loops = λ e. l.turn.loops (nothing v e) };
    back = rw (at-u, walk-letters P.step (run P.step 0 u) v) l.turn.back;
    ends = rw (at-u, walk-letters (P.progress (run P.step 0 u)) 0 v) l.turn.accepts;
  })
    where
      at-u : walk P.step 0 (letters u) ≡ run P.step 0 u
      at-u = walk-letters P.step 0 u

  -- none, for words as lists
  pub none-accepted : ((u v : Word) → AcceptedWords P u v → ⊥) → (u v : List ℕ) → Accepted P u v → ⊥
  none-accepted n u v a =
      n (word u) (word v) (accepted-lasso (word u) (word v)
      (subst (λ (x : List ℕ). Accepted P x (letters (word v))) (sym (letters-word u)) (subst (Accepted P u) (sym (letters-word v)) a)))

  pub first-accepted : {n : ℕ} {work : List ℕ} {z : LassoCodes} → FirstAt (AcceptedWords P) n work z → FirstAt (λ u v. Accepted P (letters u) (letters v)) n work z
  first-accepted A = record {
    u = A.u;
    v = A.v;
    u_in = A.u_in;
    v_in = A.v_in;
    u_path = A.u_path;
    v_path = A.v_path;
    first = record { is = lasso-accepted A.u A.v A.first.is; least = λ u v a. A.first.least u v (accepted-lasso u v a) };
  }

upto : (v : Word) (l : List ℕ) (w : Word) → v ⊑ w → letters w ≡ l → (letters v ≡ l) ⊎ Shortlex (letters v) l
upto v l w same e = inl e
upto v l w (less p) e = inr (subst (Shortlex (letters v)) e (ordered p))

-- the first of some lassos, by their letters
pub first-letters : {P : List ℕ → List ℕ → Type 0} {u v : Word} → FirstWords (λ u v. P (letters u) (letters v)) u v → model.First P (letters u) (letters v)
first-letters {P} {u} {v} F = record { has = F.is; least = λ u' v' p. least u' v' (F.least (word u') (word v') (back u' v' p)) }
  where
    back : (u' v' : List ℕ) → P u' v' → P (letters (word u')) (letters (word v'))
    back u' v' p = subst (λ (x : List ℕ). P x (letters (word v'))) (sym (letters-word u')) (subst (P u') (sym (letters-word v')) p)

    least : (u' v' : List ℕ) → (u ⊏ word u') ⊎ ((u ≡ word u') × (v ⊑ word v')) → ((letters u ≡ u') × (letters v ≡ v')) ⊎ Before (letters u) (letters v) u' v'
    least u' v' (inl p) = inr (by_prefix (subst (Shortlex (letters u)) (letters-word u') (ordered p)))
    least u' v' (inr (e, q)) = by (upto v v' (word v') q (letters-word v'))
      where
        d : letters u ≡ u'
        d = ap letters e ∙ letters-word u'

        by : (letters v ≡ v') ⊎ Shortlex (letters v) v' → ((letters u ≡ u') × (letters v ≡ v')) ⊎ Before (letters u) (letters v) u' v'
        by (inl g) = inl (d, g)
        by (inr g) = inr (by_period d g)
