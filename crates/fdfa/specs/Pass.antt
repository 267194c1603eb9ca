-- The pass over a prefix (02, F-4): each letter is judged and walked before the next one is looked at, so that the pass
-- may stop after any letter and be taken up again from what it holds. What it comes to, for every word and every way to
-- cut it, is said by the laws of proofs/Pass. Assumes nothing.
use Rattle.std.specs.Prelude.{cond, List, [], ◌∷◌, ◌++◌, ℕ, ◌+◌, ◌≤◌, ◌<◌, ltb, length, get_or, take}
use Rattle.fdfa.specs.Words.{Over}

-- What the pass holds: the state reached and how many letters were passed, or the position of the first unknown letter.
pub data Pass : Type 0 where
  reached : ℕ → ℕ → Pass
  unknown : ℕ → Pass

-- At its start: in state 0, before the first letter.
abbrev pub start : Pass
start = reached 0 0

-- One letter further, in an automaton f over s letters. A pass that has failed stays so.
abbrev pub pass_letter : ℕ → (ℕ → ℕ → ℕ) → Pass → ℕ → Pass
pass_letter s f (reached q i) a = cond (ltb a s) (reached (f q a) (i + 1)) (unknown i)
pass_letter s f (unknown i) a = unknown i

-- Taken on over a word.
abbrev pub pass_over : ℕ → (ℕ → ℕ → ℕ) → Pass → List ℕ → Pass
pass_over s f p [] = p
pass_over s f p (a ∷ w) = pass_over s f (pass_letter s f p a) w

-- Taken on over the parts that a word is cut into, one after the other; and the word.
abbrev pub pass_parts : ℕ → (ℕ → ℕ → ℕ) → Pass → List (List ℕ) → Pass
pass_parts s f p [] = p
pass_parts s f p (w ∷ ws) = pass_parts s f (pass_over s f p w) ws

abbrev pub joined : List (List ℕ) → List ℕ
joined [] = []
joined (w ∷ ws) = w ++ joined ws

-- The first letter of a word that is not below s stands at position i.
pub record FirstUnknown (s : ℕ) (w : List ℕ) (i : ℕ) : Type 0 where
  pub within : i < length w
  pub before : Over s (take i w)
  pub here : s ≤ get_or w i 0
