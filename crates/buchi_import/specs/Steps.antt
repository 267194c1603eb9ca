-- What inner functions say of reading, and need for filling. Assumes nothing.
use Rattle.slices.specs.declared.Refusal.{Refusal}
use Rattle.std.specs.Prelude.{◌≡◌, cond, List, [], ◌∷◌, ℕ, ◌+◌, ◌*◌, ◌≤◌, ◌<◌, eqb, length, get_or, Result, Ok}
use Rattle.slices.specs.Refusals.{mapped}
use Rattle.slices.specs.Tables.{tab}
use Rattle.fdfa.specs.Buchi.{Dba}
use Rattle.numbers.specs.Storing.{Stored}
use Rattle.format.specs.declared.Extent.{Extent}
use Rattle.format.specs.Format.{Found}
use Rattle.format.specs.Lines.{extent}
use Rattle.buchi_import.specs.declared.Move.{Move}
use Rattle.buchi_import.specs.declared.Moves.{Moves}
use Rattle.buchi_import.specs.declared.Drawn.{Drawn}
use Rattle.buchi_import.specs.Reading.{Numbers, move_count, letters_in, states_in, moved, is_in}

-- A transition that was read, as what reading finds.
abbrev pub move_says : Result Move Refusal → Result Found Refusal
move_says x = mapped (λ (m : Move). record { values = m.letter ∷ m.source ∷ m.target ∷ []; next = m.next }) x

-- What the code answers of transitions, and of a whole text: their counts.
abbrev pub moves_of : Result Found Refusal → Result Moves Refusal
moves_of x = mapped (λ (w : Found). record {
  count = move_count w.values;
  of_start = letters_in w.values;
  next = w.next;
}) x

abbrev pub sizes_of : Result Numbers Refusal → Result Drawn Refusal
sizes_of x = mapped (λ (w : Numbers). record { letters = letters_in w.moves; states = states_in w.moves }) x

-- Where each transition leads.
abbrev pub targets_in : List ℕ → List ℕ
targets_in moves = tab (move_count moves) (λ i. get_or moves (3 * i + 2) 0)

-- The states of a list are noted by 1, each where there is room for it.
pub record Noted (old states new : List ℕ) : Type 0 where
  pub same : length new ≡ length old
  pub cells : (p : ℕ) → p < length old → get_or new p 0 ≡ cond (is_in p states) 1 (get_or old p 0)

-- Transitions, accepting states, the rest of a text after some transitions, and a whole text were read; a refusal
-- leaves the cells open.
pub record MovesRead (x : Result Found Refusal) (old new : List ℕ) (r : Result Moves Refusal) : Type 0 where
  pub says : r ≡ moves_of x
  pub same : length new ≡ length old
  pub cells : (w : Found) → x ≡ Ok w → Stored old 0 (targets_in w.values) new (move_count w.values)

pub record AcceptingRead (x : Result Found Refusal) (old new : List ℕ) (r : Result Extent Refusal) : Type 0 where
  pub says : r ≡ extent x
  pub same : length new ≡ length old
  pub cells : (w : Found) → x ≡ Ok w → Noted old w.values new

pub record RestRead (limit : ℕ) (t : List ℕ) (at m c : ℕ) (old new : List ℕ) (r : Result Drawn Refusal) : Type 0 where
  pub says : (ms : List ℕ) → move_count ms ≡ m → letters_in ms ≡ c →
      r ≡ sizes_of (moved limit t (Ok (record { values = ms; next = at })))
  pub same : length new ≡ length old
  pub cells : (ms : List ℕ) (w : Numbers) → move_count ms ≡ m → letters_in ms ≡ c →
      moved limit t (Ok (record { values = ms; next = at })) ≡ Ok w → Noted old w.finals new

pub record TextRead (x : Result Numbers Refusal) (ts ts' fs fs' : List ℕ) (r : Result Drawn Refusal) : Type 0 where
  pub says : r ≡ sizes_of x
  pub targets : (w : Numbers) → x ≡ Ok w → Stored ts 0 (targets_in w.moves) ts' (move_count w.moves)
  pub finals : (w : Numbers) → x ≡ Ok w → Noted fs w.finals fs'

-- The automaton of s letters and n states whose transitions lead to ts and whose accepting states are noted in fs.
abbrev pub automaton_in : ℕ → ℕ → List ℕ → List ℕ → Dba
automaton_in s n ts fs = record {
  letters = s;
  states = n;
  step = λ q a. get_or ts (q * s + a) 0;
  accepting = λ p. eqb (get_or fs p 0) 1;
}

-- Its counts are within the bounds, all of its transitions and states lie in the slices, and each transition leads to
-- one of its states.
pub record Stocked (s n : ℕ) (ts fs : List ℕ) : Type 0 where
  pub some_letters : 1 ≤ s
  pub few_letters : s ≤ 32
  pub some_states : 1 ≤ n
  pub few_states : n ≤ 16
  pub moves : n * s ≤ length ts
  pub targets : (i : ℕ) → i < n * s → get_or ts i 0 < n
  pub finals : n ≤ length fs
