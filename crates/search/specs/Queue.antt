-- The memory of a search: its queue, 64 bits an entry, and a status for each state. Assumes nothing.
use Rattle.std.specs.Prelude.{cond, List, [], ◌∷◌, ℕ, ◌+◌, ◌*◌, ◌-◌, ◌/◌, ◌%◌, eqb, get_or}

-- An entry: a state below 2^20, its row below 2^10 (the state's number over the width), the letter that led to it,
-- below 2^5, and the code of the state that it was reached from: 0 is the root, i + 1 is entry i.
abbrev pub entry : ℕ → ℕ → ℕ → ℕ → ℕ
entry x y a p = x + 1048576 * (y + 1024 * (a + 32 * p))

abbrev pub letter_at : List ℕ → ℕ → ℕ
letter_at cells i = get_or cells i 0 / 1073741824 % 32

abbrev pub parent_at : List ℕ → ℕ → ℕ
parent_at cells i = get_or cells i 0 / 34359738368

-- The state of a code with its row above it. The root's row is 0.
unfoldable pub place_at : ℕ → List ℕ → ℕ → ℕ
place_at root cells code = cond (eqb code 0) root (get_or cells (code - 1) 0 % 1073741824)

abbrev pub state_at : ℕ → List ℕ → ℕ → ℕ
state_at root cells code = place_at root cells code % 1048576

-- How many states have status 0: those that were met.
abbrev pub met : List ℕ → ℕ
met [] = 0
met (m ∷ ms) = (1 - m) + met ms
