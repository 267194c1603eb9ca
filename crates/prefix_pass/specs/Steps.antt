-- What the inner functions of the pass rely on. Assumes nothing.
use Rattle.std.specs.Prelude.{List, ℕ, ◌≤◌, ◌<◌, length}
use Rattle.fdfa.specs.Family.{Closed}
use Rattle.fdfa.specs.Pass.{Pass, reached, unknown}
use Rattle.packed.specs.Columns.{column_step}

-- A table by letter in which each of s letters leads from each of 32 states to one of them.
pub record Stepping (t : List ℕ) (s : ℕ) : Type 0 where
  pub few_letters : s ≤ 32
  pub long : 1024 ≤ length t
  pub closed : Closed s 32 (column_step t)

-- The state that is held, if any, is one of n.
abbrev pub Within : ℕ → Pass → Type 0
Within n (reached q i) = q < n
Within n (unknown i) = Unit {0}
