-- Inclusion of two families with a counterexample (01: the comparison), and emptiness. Both are found by trying every
-- lasso up to 01's bounds; laws of proofs/ say the same of lassos of every length. Assumes nothing.
use Rattle.std.specs.Prelude.{◌≡◌, Bool, true, false, not, ◌&&◌, List, ◌⊎◌, ℕ, zero, suc, ◌*◌, ◌/◌, ◌%◌, eqb}
use Rattle.slices.specs.Extremes.{largest}
use Rattle.fdfa.specs.Words.{Over, Before}
use Rattle.fdfa.specs.Family.{Fdfa, walk, Lasso}
use Rattle.fdfa.specs.Normalization.{Normalized, preperiod, period_count}
use Rattle.fdfa.specs.Acceptance.{accepts}
use Rattle.fdfa.specs.Boolean.{beside}
use Rattle.fdfa.specs.Enumeration.{is_found, first_word, Witness, absent, lasso, first_lasso_of}

-- A counterexample (01: a counter-show) is normalized in both, accepted by the first and rejected by the second.
pub record Counterexample (F G : Fdfa) (u v : List ℕ) : Type 0 where
  pub lasso : Lasso F.letters u v
  pub first_closes : Normalized F u v
  pub second_closes : Normalized G u v
  pub accepted : accepts F u v ≡ true
  pub rejected : accepts G u v ≡ false

-- The first of the lassos with a property: every other one comes after it.
pub record First (P : List ℕ → List ℕ → Type 0) (u v : List ℕ) : Type 0 where
  pub has : P u v
  pub least : (u' v' : List ℕ) → P u' v' → ((u ≡ u') × (v ≡ v')) ⊎ Before u v u' v'

-- What an answer says, of lassos of every length: none has the property, or it is the first that has.
pub data Answers (P : List ℕ → List ℕ → Type 0) : Witness → Type 0 where
  none_has : ((u v : List ℕ) → P u v → ⊥) → Answers P absent
  first_is : {u v : List ℕ} → First P u v → Answers P (lasso u v)

abbrev pub normalized : Fdfa → List ℕ → List ℕ → Bool
normalized F u v = eqb (preperiod F u v) 0 && eqb (period_count F u v) 1

abbrev pub counters : Fdfa → Fdfa → List ℕ → List ℕ → Bool
counters F G u v = normalized F u v && normalized G u v && accepts F u v && not (accepts G u v)

-- K of one family: the size of its largest progress automaton, over all leading states.
abbrev pub widest : Fdfa → ℕ
widest F = largest F.states F.size

-- How many of the numbers 0, .., m − 1 pass.
unfoldable pub count_below : ℕ → (ℕ → Bool) → ℕ
count_below zero p = zero
count_below (suc m) p = elim (p m) [ true ↦ suc (count_below m p) | false ↦ count_below m p ]

-- r of the numbers 0, .., m − 1 have the property.
pub data Counts (P : ℕ → Type 0) : ℕ → ℕ → Type 0 where
  of_none : Counts P 0 0
  has_it : {m r : ℕ} → P m → Counts P m r → Counts P (suc m) (suc r)
  lacks_it : {m r : ℕ} → (P m → ⊥) → Counts P m r → Counts P (suc m) r

-- Some word leads the automaton f from its start to x.
pub record Reached (s : ℕ) (f : ℕ → ℕ → ℕ) (x : ℕ) : Type 0 where
  pub by : List ℕ
  pub over : Over s by
  pub goes : walk f 0 by ≡ x

-- The same by trying every word of fewer letters than f has states.
abbrev pub reaches : ℕ → ℕ → (ℕ → ℕ → ℕ) → ℕ → Bool
reaches s n f x = is_found (first_word s 0 n (λ w. eqb (walk f 0 w) x))

-- R: how many states of the automaton some word reaches.
abbrev pub reached_states : ℕ → ℕ → (ℕ → ℕ → ℕ) → ℕ
reached_states s n f = count_below n (reaches s n f)

-- The pairs of leading states: how many (N), and how they move.
abbrev pub pairs : Fdfa → Fdfa → ℕ
pairs F G = F.states * G.states

abbrev pub pair_step : Fdfa → Fdfa → ℕ → ℕ → ℕ
pair_step F G = beside G.states F.step G.step

-- N × K: a pair of leading states, with a state of each of two progress automata.
abbrev pub combinations : Fdfa → Fdfa → ℕ
combinations F G = pairs F G * (widest F * widest G)

-- The pair with the number x is one that some prefix, of whatever length, leads the two leading automata to.
pub record ReachedPair (F G : Fdfa) (x : ℕ) : Type 0 where
  pub by : List ℕ
  pub over : Over F.letters by
  pub first : walk F.step 0 by ≡ x / G.states
  pub second : walk G.step 0 by ≡ x % G.states

-- Where a family stands on a lasso that was found: the leading state after the prefix (02: waits), and where the
-- progress automaton of that state, from its start, ends after one turn of the period (02: ends); 0 where there is no
-- lasso.
pub record Standing : Type 0 where
  pub waits : ℕ
  pub ends : ℕ

abbrev pub nowhere : Standing
nowhere = record { waits = 0; ends = 0 }

abbrev pub standing : Fdfa → Witness → Standing
standing F absent = nowhere
standing F (lasso u v) = record {
  waits = walk F.step 0 u;
  ends = walk (F.progress (walk F.step 0 u)) 0 v;
}

-- R, the lasso that was found, and where each of two families stands on it.
pub record Comparison : Type 0 where
  pub reached : ℕ
  pub witness : Witness
  pub first : Standing
  pub second : Standing

-- The first counterexample, or none.
abbrev pub counterexample : Fdfa → Fdfa → Witness
counterexample F G = first_lasso_of F.letters (pairs F G) (combinations F G) (counters F G)

-- Contained, or the first counterexample; with R, and where the families stand on it.
abbrev pub comparison : Fdfa → Fdfa → Comparison
comparison F G = record {
  reached = reached_states F.letters (pairs F G) (pair_step F G);
  witness = counterexample F G;
  first = standing F (counterexample F G);
  second = standing G (counterexample F G);
}

-- A lasso that is normalized and accepted.
pub record Accepted (F : Fdfa) (u v : List ℕ) : Type 0 where
  pub lasso : Lasso F.letters u v
  pub closes : Normalized F u v
  pub accepted : accepts F u v ≡ true

-- The first of those, or none.
abbrev pub first_accepted : Fdfa → Witness
first_accepted F = first_lasso_of F.letters F.states (F.states * widest F) (λ u v. normalized F u v && accepts F u v)

-- Empty, or the first accepted lasso that is normalized; with R, and where the family stands on it. There is no second
-- family.
abbrev pub emptiness : Fdfa → Comparison
emptiness F = record {
  reached = reached_states F.letters F.states F.step;
  witness = first_accepted F;
  first = standing F (first_accepted F);
  second = nowhere;
}
