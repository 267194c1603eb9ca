-- What inner functions need. Assumes nothing.
use Rattle.std.specs.Prelude.{List, ℕ, ◌≤◌, ◌<◌, length, get_or}

-- A word that can be measured, where w are the cells: not too long, and each letter has a cell of three digits at most.
pub record Measurable (x w : List ℕ) : Type 0 where
  pub few : length x ≤ 65536
  pub known : (i : ℕ) → i < length x → get_or x i 0 < length w
  pub times : (a : ℕ) → a < length w → get_or w a 0 < 1000
