-- A breadth-first search over an abstract step function, and what it has found at each point. Assumes nothing.
use Rattle.std.specs.Prelude.{◌≡◌, List, ℕ, suc, ◌+◌, ◌*◌, ◌/◌, ◌≤◌, ◌<◌, length, get_or}
use Rattle.fdfa.specs.Family.{Closed}
use Rattle.fdfa.specs.Boolean.{beside}
use Rattle.search.specs.Words.{Word, ε, ◌·◌, ◌⊏◌, ◌⊑◌, run, Over}
use Rattle.search.specs.Queue.{entry, met}
use Rattle.search.specs.Paths.{Path}
use Rattle.search.specs.declared.Expansion.{Expansion}
use Rattle.search.specs.declared.Expansion.TheVariants.{On, Ending}

-- What is searched: states that move by letters, from a root that counts as met at once (`lo` 0) or only once it is
-- reached by a letter (1). A state's status before it is met is 1, or 2 where the search ends.
pub record Space : Type 0 where
  pub step : ℕ → ℕ → ℕ
  pub letters : ℕ
  pub states : ℕ
  pub width : ℕ
  pub root : ℕ
  pub lo : ℕ
  pub fresh : ℕ → ℕ

abbrev pub reach : Space → Word → ℕ
reach P w = run P.step P.root w

pub record Bounded (P : Space) : Type 0 where
  pub closed : Closed P.letters P.states P.step
  pub few_letters : P.letters ≤ 32
  pub few_states : P.states ≤ 1048576
  pub few_rows : (x : ℕ) → x < P.states → x / P.width < 1024
  pub low : P.lo ≤ 1
  pub starts : P.root < P.states
  pub status : (x : ℕ) → x < P.states → (1 ≤ P.fresh x) × (P.fresh x ≤ 2)

-- Some code from lo on reaches x by a word that is no later than w.
pub record Hit (P : Space) (lo total : ℕ) (W : ℕ → Word) (x : ℕ) (w : Word) : Type 0 where
  pub at : ℕ
  pub from : lo ≤ at
  pub below : at < total
  pub state : reach P (W at) ≡ x
  pub early : W at ⊑ w

-- Entry i of the queue: code i + 1.
pub record Entry (P : Space) (W : ℕ → Word) (cells : List ℕ) (i : ℕ) : Type 0 where
  pub parent : ℕ
  pub letter : ℕ
  pub older : parent ≤ i
  pub word : W (suc i) ≡ W parent · letter
  pub stands : get_or cells i 0 ≡ entry (reach P (W (suc i))) (reach P (W (suc i)) / P.width) letter parent

-- `total` codes are found, each with its word; the codes below `head` are expanded, and of `head` the letters below b.
-- No state that was met ends the search.
pub record Search (P : Space) (status cells : List ℕ) (total head b : ℕ) : Type 0 where
  pub W : ℕ → Word
  pub start : W 0 ≡ ε
  pub size : length status ≡ P.states
  pub room : P.states + P.lo ≤ length cells
  pub some : 1 ≤ total
  pub upto : head ≤ total
  pub counted : met status + P.lo ≡ total
  pub over : (j : ℕ) → j < total → Over P.letters (W j)
  pub inside : (j : ℕ) → j < total → reach P (W j) < P.states
  pub rising : (i j : ℕ) → i < j → j < total → W i ⊏ W j
  pub fence : (j : ℕ) → j < total → head < total → W j ⊏ W head · b
  pub closed : (c a : ℕ) → c < total → a < P.letters → c * 32 + a < head * 32 + b →
      Hit P P.lo total W (P.step (reach P (W c)) a) (W c · a)
  pub by : (x : ℕ) → x < P.states → get_or status x 0 ≡ 0 → (j : ℕ) × (P.lo ≤ j) × (j < total) × (reach P (W j) ≡ x)
  pub lit : (j : ℕ) → P.lo ≤ j → j < total → get_or status (reach P (W j)) 0 ≡ 0
  pub kept : (x : ℕ) → x < P.states → (get_or status x 0 ≡ 0 → ⊥) → get_or status x 0 ≡ P.fresh x
  pub calm : (j : ℕ) → P.lo ≤ j → j < total → P.fresh (reach P (W j)) ≡ 1
  pub entries : (i : ℕ) → suc i < total → Entry P W cells i

-- The code of the first word, other than the empty one, that leads to a state where the search ends.
pub record Ends (P : Space) (cells : List ℕ) (code : ℕ) : Type 0 where
  pub word : Word
  pub path : Path cells code word
  pub inside : code ≤ length cells
  pub over : Over P.letters word
  pub some : word ≡ ε → ⊥
  pub ends : P.fresh (reach P word) ≡ 2
  pub least : (w : Word) → Over P.letters w → (w ≡ ε → ⊥) → P.fresh (reach P w) ≡ 2 → word ⊑ w

-- One code more is expanded, or an ending was met.
abbrev pub Expanded : Space → List ℕ → List ℕ → ℕ → Expansion → Type 0
Expanded P status cells head (On total) = Search P status cells total (head + 1) 0
Expanded P status cells head (Ending code) = Ends P cells code

-- All codes are expanded and none ends the search, or an ending was met.
abbrev pub Explored : Space → List ℕ → List ℕ → Expansion → Type 0
Explored P status cells (On total) = Search P status cells total total 0
Explored P status cells (Ending code) = Ends P cells code

-- Two automata side by side by their tables, row after row: state y of `rows` and state r of `leads`, of n, have the
-- number y × n + r.
abbrev pub row_step : List ℕ → ℕ → ℕ → ℕ → ℕ
row_step t s q a = get_or t (q * s + a) 0

pub record Tables (leads rows : List ℕ) (n k s : ℕ) : Type 0 where
  pub some : 0 < n
  pub few_leads : n ≤ 1024
  pub few_rows : k ≤ 1024
  pub few_letters : s ≤ 32
  pub leads_long : n * s ≤ length leads
  pub rows_long : k * s ≤ length rows
  pub leads_closed : Closed s n (row_step leads s)
  pub rows_closed : Closed s k (row_step rows s)

-- What a search over such tables looks for: of k rows, from lo on, the states of status 2.
pub record Aim : Type 0 where
  pub rows : ℕ
  pub lo : ℕ
  pub fresh : ℕ → ℕ

abbrev pub joint : List ℕ → List ℕ → ℕ → ℕ → ℕ → Aim → Space
joint leads rows n s root aim = record {
  step = beside n (row_step rows s) (row_step leads s);
  letters = s;
  states = aim.rows * n;
  width = n;
  root = root;
  lo = aim.lo;
  fresh = aim.fresh;
}

-- What the search has found, for an aim; and that there is such an aim.
pub record Ready (leads rows : List ℕ) (n s root : ℕ) (status cells : List ℕ) (total head : ℕ)
    (aim : Aim) : Type 0 where
  pub tables : Tables leads rows n aim.rows s
  pub bounded : Bounded (joint leads rows n s root aim)
  pub leading : root < n
  pub search : Search (joint leads rows n s root aim) status cells total head 0

pub record Searchable (leads rows : List ℕ) (n s root : ℕ) (status cells : List ℕ) (total head : ℕ) : Type 0 where
  pub aim : Aim
  pub ready : Ready leads rows n s root status cells total head aim
