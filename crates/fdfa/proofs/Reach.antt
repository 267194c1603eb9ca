-- R counts the states, or pairs of states, that words of every length reach: words of fewer letters than there are states
-- reach them all. Assumes nothing.
use mathlib.Core.Path.{◌≡◌, refl, ap, ap₂, sym, ◌∙◌}
use mathlib.Core.Bool.{Bool, true, false, true≢false}
use mathlib.Core.List.{List}
use Prim.Native.Nat.{ℕ, zero, suc, ◌+◌, ◌*◌, ◌/◌, ◌%◌, ◌<◌}
use native.Mathlib.Omega.{arith}
use native.Mathlib.Nat.{mod-lt, mul-pos, div-add-mod'}
use lib.Dec.{eqb}
use borrow.Author.Tests.{eq-eqb, eqb-true}
use Rattle.fdfa.specs.Family.{Fdfa, Closed, Complete, walk}
use Rattle.fdfa.specs.Enumeration.{Found, none, word, is_found, first_word}
use Rattle.fdfa.specs.Inclusion.{count_below, Counts, of_none, has_it, lacks_it, Reached, reaches, pairs, pair_step, ReachedPair, comparison, emptiness}
use Rattle.fdfa.proofs.Words.{walk-closed}
use Rattle.fdfa.proofs.Product.{beside-closed, beside-start, pair_parts}
use Rattle.fdfa.proofs.Enumerated.{Finds, finds, misses, Ranges, word_first}
use Rattle.fdfa.proofs.Pumping.{Short, short}

module _ (s n : ℕ) (f : ℕ → ℕ → ℕ) (closed : Closed s n f) (start : 0 < n) (x : ℕ) where
  to-x : List ℕ → Bool
  to-x w = eqb (walk f 0 w) x

  pub reaches-says : reaches s n f x ≡ true → Reached s f x
  unfolding to-x
  reaches-says e = by (first_word s 0 n to-x) (word_first s 0 n to-x) e
    where
      by : (r : Found) → Finds (Ranges s 0 n) to-x r → is_found r ≡ true → Reached s f x
      by none m d = absurd (true≢false (sym d))
      by (word w) (finds i h least) d = record { by = w; over = i.over; goes = eqb-true (walk f 0 w) x h }

  pub reached-passes : Reached s f x → reaches s n f x ≡ true
  unfolding to-x
  reached-passes r = by (first_word s 0 n to-x) (word_first s 0 n to-x)
    where
      t : Short s n f 0 r.by
      t = short s n f closed 0 start r.by r.over

      by : (w : Found) → Finds (Ranges s 0 n) to-x w → is_found w ≡ true
      by (word w) m = refl
      by none (misses never) =
          absurd (never t.by (record { over = t.over; from = omega arith; to = omega (arith, t.few) }) (eq-eqb (walk f 0 t.by) x (t.goes ∙ r.goes)))

count_below-on : (m : ℕ) (p : ℕ → Bool) → p m ≡ true → count_below (suc m) p ≡ suc (count_below m p)
unfolding count_below
count_below-on m p e = rw (e, count_below)

count_below-off : (m : ℕ) (p : ℕ → Bool) → p m ≡ false → count_below (suc m) p ≡ count_below m p
unfolding count_below
count_below-off m p e = rw (e, count_below)

-- counting by a test that says whether a number has the property
pub counts : (P : ℕ → Type 0) (p : ℕ → Bool) (m : ℕ) → ((x : ℕ) → x < m → p x ≡ true → P x) → ((x : ℕ) → x < m → P x → p x ≡ true) → Counts P m (count_below m p)
unfolding count_below
counts P p zero says passes = of_none
counts P p (suc m) says passes = by (p m) refl (counts P p m (λ x h. says x (omega arith)) (λ x h. passes x (omega arith)))
  where
    by : (t : Bool) → p m ≡ t → Counts P m (count_below m p) → Counts P (suc m) (count_below (suc m) p)
    by true e ih = rw (count_below-on m p e) (has_it (says m (omega arith) e) ih)
    by false e ih = rw (count_below-off m p e) (lacks_it (λ h. true≢false (sym (passes m (omega arith) h) ∙ e)) ih)

-- a property has one count
pub counts-unique : {P : ℕ → Type 0} {m r r' : ℕ} → Counts P m r → Counts P m r' → r ≡ r'
counts-unique of_none of_none = refl
counts-unique (has_it p c) (has_it q d) = ap suc (counts-unique c d)
counts-unique (has_it p c) (lacks_it q d) = absurd (q p)
counts-unique (lacks_it p c) (has_it q d) = absurd (p q)
counts-unique (lacks_it p c) (lacks_it q d) = counts-unique c d

-- R of emptiness: the leading states that some word reaches
pub reached-states : (F : Fdfa) → Complete F → Counts (Reached F.letters F.step) F.states (emptiness F).reached
reached-states F c =
    counts (Reached F.letters F.step) (reaches F.letters F.states F.step) F.states
    (λ x h. reaches-says F.letters F.states F.step c.leads c.start x) (λ x h. reached-passes F.letters F.states F.step c.leads c.start x)

-- R of the comparison: the pairs of leading states that some word reaches
module _ (F G : Fdfa) (alike : F.letters ≡ G.letters) (CF : Complete F) (CG : Complete G) where
  G-leads : Closed F.letters G.states G.step
  G-leads = rw alike CG.leads

  N : ℕ
  N = F.states * G.states

  pairs-closed : Closed F.letters N (pair_step F G)
  unfolding N
  pairs-closed = beside-closed CG.start CF.leads G-leads

  some_pair : 0 < N
  unfolding N
  some_pair = mul-pos CF.start CG.start

  to-pair : (x : ℕ) → Reached F.letters (pair_step F G) x → ReachedPair F G x
  to-pair x r = record { by = r.by; over = r.over; first = e.0; second = e.1 }
    where
      e : (walk F.step 0 r.by ≡ x / G.states) × (walk G.step 0 r.by ≡ x % G.states)
      e = pair_parts (walk F.step 0 r.by) (x / G.states) (walk-closed G-leads CG.start r.over) (mod-lt x CG.start)
          (sym (beside-start F.step G.step CG.start G-leads r.over) ∙ (r.goes ∙ sym (div-add-mod' x G.states)))

  of_pair : (x : ℕ) → ReachedPair F G x → Reached F.letters (pair_step F G) x
  of_pair x r = record {
    by = r.by;
    over = r.over;
    goes =
        beside-start F.step G.step CG.start G-leads r.over
        ∙ (ap₂ (λ (p q : ℕ). p * G.states + q) r.first r.second ∙ div-add-mod' x G.states);
  }

  pub reached-pairs : Counts (ReachedPair F G) (pairs F G) (comparison F G).reached
  unfolding N
  reached-pairs =
      counts (ReachedPair F G) (reaches F.letters N (pair_step F G)) N
      (λ x h e. to-pair x (reaches-says F.letters N (pair_step F G) pairs-closed some_pair x e))
      (λ x h r. reached-passes F.letters N (pair_step F G) pairs-closed some_pair x (of_pair x r))
