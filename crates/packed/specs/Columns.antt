-- A table by letter, as a walk along a word reads it: cell 32 a + q has the next state of q by a. Assumes nothing.
use Rattle.std.specs.Prelude.{cond, List, ℕ, ◌+◌, ◌*◌, ◌/◌, ◌%◌, ◌<◌, ltb, length, get_or, take, replicate}
use Rattle.slices.specs.Filling.{written}
use Rattle.slices.specs.Tables.{tab}
use Rattle.fdfa.specs.Family.{walk}
use Rattle.packed.specs.Layout.{table_step}

abbrev pub column_step : List ℕ → ℕ → ℕ → ℕ
column_step t q a = get_or t (32 * a + q) 0

-- Cell i, for an automaton of m states and s letters whose table in the sheet begins at a place; 0 where there is no
-- such state.
abbrev pub column_cell : List ℕ → ℕ → ℕ → ℕ → ℕ → ℕ
column_cell b at s m i = cond (ltb (i % 32) m) (table_step b at s (i % 32) (i / 32)) 0

-- The whole table: 32 cells a letter, then 0.
unfoldable pub columns_of : List ℕ → ℕ → ℕ → ℕ → List ℕ
columns_of b at s m = written (tab (32 * s) (column_cell b at s m)) (replicate 1024 0)

-- Each cell that a walk over the word reads lies within the table.
pub record Walkable (t : List ℕ) (q : ℕ) (w : List ℕ) : Type 0 where
  pub inside : (i : ℕ) → i < length w → 32 * get_or w i 0 + walk (column_step t) q (take i w) < length t
