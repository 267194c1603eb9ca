-- Deterministic Büchi automata, and the family of DFAs of one (002, Theorem 5.3; 02: drawn automata). Assumes nothing.
use Rattle.std.specs.Prelude.{◌≡◌, Bool, true, false, cond, ◌||◌, List, [], ◌∷◌, ℕ, zero, suc, ◌+◌, ◌*◌, ◌-◌, ◌/◌, ◌%◌}
use Rattle.std.specs.Prelude.{◌≤◌, ◌<◌, eqb}
use Rattle.fdfa.specs.Family.{Fdfa, Closed}

-- States and letters are numbered from 0, and state 0 is the start.
pub record Dba : Type 0 where
  pub letters : ℕ
  pub states : ℕ
  pub step : ℕ → ℕ → ℕ
  pub accepting : ℕ → Bool

-- It has its start, and each state leads to one of its states by each letter.
pub record CompleteDba (D : Dba) : Type 0 where
  pub start : 0 < D.states
  pub leads : Closed D.letters D.states D.step

-- Two automata that are the same on their states and letters.
pub record SameDba (D E : Dba) : Type 0 where
  pub letters : D.letters ≡ E.letters
  pub states : D.states ≡ E.states
  pub steps : (q a : ℕ) → q < D.states → a < D.letters → D.step q a ≡ E.step q a
  pub accepting : (p : ℕ) → p < D.states → D.accepting p ≡ E.accepting p

-- The state after m letters of an infinite word.
unfoldable pub run : Dba → (ℕ → ℕ) → ℕ → ℕ
run D w zero = 0
run D w (suc m) = D.step (run D w m) (w m)

-- The letter at some position from m on leads into an accepting state. The start is not entered.
pub record EntersFrom (D : Dba) (w : ℕ → ℕ) (m : ℕ) : Type 0 where
  pub position : ℕ
  pub later : m ≤ position
  pub enters : D.accepting (run D w (suc position)) ≡ true

-- The word is accepted: its run enters accepting states without end.
abbrev pub AcceptsWord : Dba → (ℕ → ℕ) → Type 0
AcceptsWord D w = (m : ℕ) → EntersFrom D w m

-- An accepting state is entered on the way over a finite word, from q; q itself is not.
unfoldable pub entered : Dba → ℕ → List ℕ → Bool
entered D q [] = false
entered D q (a ∷ w) = D.accepting (D.step q a) || entered D (D.step q a) w

-- Of an automaton of n states: in the progress automaton of q, the pair of state r and flag b has the number
-- 2 × ((r + n − q) mod n) + b.
abbrev pub pair_number_of : ℕ → ℕ → ℕ → Bool → ℕ
pair_number_of n q r b = 2 * ((r + n - q) % n) + cond b 1 0

-- State and flag of the pair with the number p.
abbrev pub pair_state : ℕ → ℕ → ℕ → ℕ
pair_state n q p = (p / 2 + q) % n

abbrev pub pair_flag : ℕ → Bool
pair_flag p = eqb (p % 2) 1

-- The family: its leading automaton is the automaton itself; the progress automaton of q remembers the state, and
-- whether an accepting one was entered since the start (`remembers` of proofs/BuchiPairs).
abbrev pub from_buchi : Dba → Fdfa
from_buchi D = record {
  letters = D.letters;
  states = D.states;
  step = D.step;
  size = λ q. 2 * D.states;
  progress = λ q p a.
      let r = D.step (pair_state D.states q p) a in
      pair_number_of D.states q r (pair_flag p || D.accepting r);
  accepting = λ q p. pair_flag p;
}
