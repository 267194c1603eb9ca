-- Two packed sheets side by side: where the tables of two automata begin, the next pair of states, and the sizes of
-- both. Assumes nothing.
use Rattle.std.specs.Prelude.{◌≡◌, List, ℕ, ◌+◌, ◌*◌, ◌/◌, ◌%◌, ◌≤◌, ◌<◌, length}
use Rattle.fdfa.specs.Family.{Closed}
use Rattle.fdfa.specs.Boolean.{beside}
use Rattle.fdfa.specs.Inclusion.{widest}
use Rattle.packed.specs.Layout.{letter_count, state_count, size_of, leading_at, progress_at_value, marks_at, table_step}
use Rattle.packed.specs.Layout.{decode, Valid}
use Rattle.pairing.specs.declared.Beside.{Beside}
use Rattle.pairing.specs.declared.PairSizes.{PairSizes}

-- Two valid sheets with the same letters.
pub record Alike (b c : List ℕ) : Type 0 where
  pub first : Valid b
  pub second : Valid c
  pub letters : letter_count b ≡ letter_count c

-- Their sizes: N pairs of leading states, and at most K pairs of progress states with each.
abbrev pub sizes_of : List ℕ → List ℕ → PairSizes
sizes_of b c = record {
  letters = letter_count b;
  first = state_count b;
  second = state_count c;
  pairs = state_count b * state_count c;
  widest = widest (decode b) * widest (decode c);
}

-- The leading automata, and the progress automata of the leading states p and q by their tables and by their marks.
abbrev pub leads_of : List ℕ → List ℕ → Beside
leads_of b c = record { first = leading_at b; second = leading_at c; letters = letter_count b; width = state_count c }

abbrev pub progress_of : List ℕ → List ℕ → ℕ → ℕ → Beside
progress_of b c p q = record {
  first = progress_at_value b p;
  second = progress_at_value c q;
  letters = letter_count b;
  width = size_of c q;
}

abbrev pub marks_of : List ℕ → List ℕ → ℕ → ℕ → Beside
marks_of b c p q = record { first = marks_at b p; second = marks_at c q; letters = letter_count b; width = size_of c q }

-- The next pair of a pair of states, by the tables of both.
abbrev pub next_pair_of : List ℕ → List ℕ → Beside → ℕ → ℕ → ℕ
next_pair_of b c t = beside t.width (table_step b t.first t.letters) (table_step c t.second t.letters)

-- What is read for the next pairs of the pair x lies within the sheets.
pub record Reads (b c : List ℕ) (t : Beside) (x : ℕ) : Type 0 where
  pub wide : 0 < t.width
  pub first : (a : ℕ) → a < t.letters → t.first + (x / t.width * t.letters + a) < length b
  pub second : (a : ℕ) → a < t.letters → t.second + (x % t.width * t.letters + a) < length c
  pub few : (a : ℕ) → a < t.letters → next_pair_of b c t x a < 1024

-- The pairs of states of two automata, m in all: each leads to one of them by each letter.
pub record Steps (b c : List ℕ) (t : Beside) (m : ℕ) : Type 0 where
  pub few_letters : t.letters ≤ 32
  pub wide : 0 < t.width
  pub few : m ≤ 1024
  pub closed : Closed t.letters m (next_pair_of b c t)
  pub reads : (x : ℕ) → x < m → Reads b c t x

-- The marks of two automata, the first of k states, lie within the sheets.
pub record MarksRead (b c : List ℕ) (m : Beside) (k : ℕ) : Type 0 where
  pub wide : 0 < m.width
  pub first : m.first + k ≤ length b
  pub second : m.second + m.width ≤ length c
