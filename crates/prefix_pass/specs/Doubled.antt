-- A table by pairs of letters, as a pass over long parts reads it: cell 1024 a + 32 b + q has the state after a and b
-- from q. Assumes nothing.
use Rattle.std.specs.Prelude.{◌≡◌, cond, List, ℕ, ◌+◌, ◌*◌, ◌/◌, ◌%◌, ◌≤◌, ◌<◌, ltb, length, take, replicate}
use Rattle.slices.specs.Filling.{written}
use Rattle.slices.specs.Tables.{tab}
use Rattle.fdfa.specs.Pass.{reached, pass_over}
use Rattle.packed.specs.Columns.{column_step}
use Rattle.prefix_pass.specs.declared.pairs.Reach.{Reach}

-- Cell i, from a table by letter of s letters; 0 where there is no such second letter.
abbrev pub pair_cell : List ℕ → ℕ → ℕ → ℕ
pair_cell t s i =
    cond (ltb (i / 32 % 32) s) (column_step t (column_step t (i % 32) (i / 1024)) (i / 32 % 32)) 0

-- The whole table: 1,024 cells a letter, then 0.
unfoldable pub pairs_of : List ℕ → ℕ → List ℕ
pairs_of t s = written (tab (1024 * s) (pair_cell t s)) (replicate 32768 0)

-- How far a pass by a table by letter went over a word, from a state: the letters passed are known, and it stands where
-- they lead.
pub record Goes (t : List ℕ) (s q : ℕ) (w : List ℕ) (r : Reach) : Type 0 where
  pub within : r.passed ≤ length w
  pub below : r.state < 32
  pub goes : (n : ℕ) → pass_over s (column_step t) (reached q n) (take r.passed w) ≡ reached r.state (n + r.passed)
