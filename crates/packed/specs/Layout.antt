-- The packed sheet (01): one byte each, s; n; k(0) to k(n − 1); the leading next states, state by state and letter by
-- letter; then for each q its next states in the same manner followed by its k(q) marks. Assumes nothing.
use Rattle.std.specs.Prelude.{Bool, true, false, List, [], ◌∷◌, ◌++◌, ◌≡◌, ℕ, ◌+◌, ◌*◌, ◌≤◌, ◌<◌, eqb, length, get_or}
use Rattle.fdfa.specs.Family.{Fdfa, Closed, Complete}
use Rattle.slices.specs.Tables.{tab, rows, sum, table}

-- What stands where.
abbrev pub letter_count : List ℕ → ℕ
letter_count b = get_or b 0 0

abbrev pub state_count : List ℕ → ℕ
state_count b = get_or b 1 0

abbrev pub size_of : List ℕ → ℕ → ℕ
size_of b q = get_or b (2 + q) 0

abbrev pub leading_at : List ℕ → ℕ
leading_at b = 2 + state_count b

-- Where the part of leading state q begins: its next states, then its marks.
unfoldable pub progress_at_value : List ℕ → ℕ → ℕ
progress_at_value b q = leading_at b + state_count b * letter_count b + sum q (λ r. size_of b r * (letter_count b + 1))

abbrev pub marks_at : List ℕ → ℕ → ℕ
marks_at b q = progress_at_value b q + size_of b q * letter_count b

abbrev pub sheet_length : List ℕ → ℕ
sheet_length b = progress_at_value b (state_count b)

-- The next state by a table of s letters a state that begins at a place.
abbrev pub table_step : List ℕ → ℕ → ℕ → ℕ → ℕ → ℕ
table_step b at s q a = get_or b (at + (q * s + a)) 0

-- The family that the bytes say.
abbrev pub decode : List ℕ → Fdfa
decode b = record {
  letters = letter_count b;
  states = state_count b;
  step = table_step b (leading_at b) (letter_count b);
  size = size_of b;
  progress = λ q. table_step b (progress_at_value b q) (letter_count b);
  accepting = λ q p. eqb (get_or b (marks_at b q + p) 0) 1;
}

-- The bytes of a family.
abbrev pub mark : Bool → ℕ
mark true = 1
mark false = 0

-- The counts and the leading table, and the part of leading state q.
abbrev pub front_bytes : Fdfa → List ℕ
front_bytes F =
    (F.letters ∷ F.states ∷ []) ++ tab F.states F.size ++ table F.states F.letters F.step

abbrev pub part_bytes : Fdfa → ℕ → List ℕ
part_bytes F q =
    table (F.size q) F.letters (F.progress q) ++ tab (F.size q) (λ p. mark (F.accepting q p))

abbrev pub pack : Fdfa → List ℕ
pack F = front_bytes F ++ rows F.states (part_bytes F)

-- Families that have a packed form: complete, every count from 1 to 32.
pub record Packable (F : Fdfa) : Type 0 where
  pub complete : Complete F
  pub some_letters : 1 ≤ F.letters
  pub few_letters : F.letters ≤ 32
  pub few_states : F.states ≤ 32
  pub few_progress : (q : ℕ) → q < F.states → F.size q ≤ 32

-- Bytes whose counts are there and run from 1 to 32.
pub record Header (b : List ℕ) : Type 0 where
  pub long : leading_at b ≤ length b
  pub some_letters : 1 ≤ letter_count b
  pub few_letters : letter_count b ≤ 32
  pub some_states : 1 ≤ state_count b
  pub few_states : state_count b ≤ 32
  pub some_size : (q : ℕ) → q < state_count b → 1 ≤ size_of b q
  pub few_size : (q : ℕ) → q < state_count b → size_of b q ≤ 32

-- Bytes that are a packed sheet: of the exact length, every next state below its automaton's size, every mark 0 or 1.
pub record Valid (b : List ℕ) : Type 0 where
  pub header : Header b
  pub exact : length b ≡ sheet_length b
  pub leads : Closed (letter_count b) (state_count b) (decode b).step
  pub progresses : (q : ℕ) → q < state_count b → Closed (letter_count b) (size_of b q) ((decode b).progress q)
  pub marks : (q p : ℕ) → q < state_count b → p < size_of b q → get_or b (marks_at b q + p) 0 < 2
