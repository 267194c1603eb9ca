-- What the inner functions of the verdict find, in the model's terms. Assumes nothing.
use Rattle.slices.specs.declared.Refusal.{Refusal}
use Rattle.std.specs.Prelude.{◌≡◌, List, ℕ, ◌<◌, Result}
use Rattle.slices.specs.Refusals.{unless}
use Rattle.slices.specs.LassoLetters.{letters_fault}
use Rattle.fdfa.specs.Words.{power}
use Rattle.fdfa.specs.Family.{Fdfa, walk}
use Rattle.fdfa.specs.Normalization.{Smallest}
use Rattle.fdfa.specs.Acceptance.{Verdict, verdict}
use Rattle.packed.specs.Layout.{letter_count, decode}
use Rattle.packed.specs.Columns.{column_step, Walkable}
use Rattle.membership.specs.declared.Normalization.{Normalization}
use Rattle.membership.specs.declared.Ended.{Ended}

-- What the check of a lasso says, by a table by letter of s letters: the state after the prefix, or the refusal.
abbrev pub checked_lasso : List ℕ → ℕ → List ℕ → List ℕ → Result ℕ Refusal
checked_lasso t s u v = unless (letters_fault s u v) (walk (column_step t) 0 u)

-- The verdict of a valid sheet: the refusals of the lasso alone.
abbrev pub judged_lasso : List ℕ → List ℕ → List ℕ → Result Verdict Refusal
judged_lasso b u v = unless (letters_fault (letter_count b) u v) (verdict (decode b) u v)

-- The states after 0, 1, .. turns of the period from a state, by a table by letter.
abbrev pub turns_from : List ℕ → ℕ → List ℕ → ℕ → ℕ
turns_from t q v k = walk (column_step t) q (power v k)

-- Every turn can be walked, and stays among 32 states.
pub record Turning (t : List ℕ) (q : ℕ) (v : List ℕ) : Type 0 where
  pub inside : (k : ℕ) → turns_from t q v k < 32
  pub walks : (k : ℕ) → Walkable t (turns_from t q v k) v

-- i and j are the smallest with which a sequence returns, and the state is the one after i turns.
pub record Returns (g : ℕ → ℕ) (n : Normalization) : Type 0 where
  pub smallest : Smallest g n.i n.j
  pub stands : n.state ≡ g n.i

-- Where the progress automaton of q stands after some turns, from its start, and whether it accepts there.
abbrev pub ended_of : Fdfa → List ℕ → ℕ → ℕ → Ended
ended_of F v q count = ended_at (walk (F.progress q) 0 (power v count))
  where
    ended_at : ℕ → Ended
    ended_at p = record { end = p; accepted = F.accepting q p }
