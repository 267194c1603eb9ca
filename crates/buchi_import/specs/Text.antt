-- A deterministic Büchi automaton as text (02): the line of the start, a line for each transition by state, then
-- letter, and a line for each accepting state, rising. Assumes nothing.
use Rattle.std.specs.Prelude.{◌≡◌, true, cond, List, [], ◌++◌, ℕ, ◌≤◌, ◌<◌}
use Prim.Native.Char.{code}
use Rattle.slices.specs.Tables.{rows}
use Rattle.slices.specs.Texts.{bytes}
use Rattle.fdfa.specs.Buchi.{Dba, CompleteDba}
use Rattle.numbers.specs.Digits.{field}

-- The line of the start.
abbrev pub start_line : List ℕ
start_line = bytes "[0]\n"

-- By the letter a state q leads to r.
abbrev pub transition_line : ℕ → ℕ → ℕ → List ℕ
transition_line a q r =
    (bytes "s" ++ field a (code ",")) ++ (bytes "[" ++ field q (code "]")) ++ (bytes "->[" ++ field r (code "]"))
    ++ bytes "\n"

-- An accepting state.
abbrev pub accepting_line : ℕ → List ℕ
accepting_line p = (bytes "[" ++ field p (code "]")) ++ bytes "\n"

unfoldable pub buchi_text : Dba → List ℕ
buchi_text D =
    start_line
    ++ rows D.states (λ q. rows D.letters (λ a. transition_line a q (D.step q a)))
    ++ rows D.states (λ p. cond (D.accepting p) (accepting_line p) [])

-- The automata that a text may be of: complete, of 1 to 32 letters and 1 to 16 states, some of them accepting.
pub record Drawable (D : Dba) : Type 0 where
  pub complete : CompleteDba D
  pub some_letters : 1 ≤ D.letters
  pub few_letters : D.letters ≤ 32
  pub few_states : D.states ≤ 16
  pub accepting : ℕ
  pub is_state : accepting < D.states
  pub accepts : D.accepting accepting ≡ true
