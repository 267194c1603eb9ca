-- What the search for a lasso keeps: accepted loops at a leading state, tables of a family's steps, the leading states
-- that were found, and the first lasso by its codes. Only inner contracts and loops use these. Assumes nothing.
use Rattle.std.specs.Prelude.{◌≡◌, Bool, true, cond, not, ◌&&◌, List, ◌⊎◌, ℕ, ◌+◌, ◌*◌, ◌-◌, ◌/◌, ◌%◌, ◌≤◌, ◌<◌, eqb}
use Rattle.std.specs.Prelude.{length, get_or, take, drop, Option, None, Some, Result}
use Rattle.fdfa.specs.Family.{Fdfa, Closed}
use Rattle.fdfa.specs.Inclusion.{Counts, Reached, Accepted}
use Rattle.pairing.specs.declared.Beside.{Beside}
use Rattle.pairing.specs.Pairs.{Alike, leads_of}
use Rattle.search.specs.Words.{Word, ε, ◌⊏◌, ◌⊑◌, run, Over, letters}
use Rattle.search.specs.Queue.{state_at}
use Rattle.search.specs.Paths.{Path, Readable}
use Rattle.search.specs.Search.{row_step}
use Rattle.fdfa.specs.Enumeration.{lasso}
use Rattle.slices.specs.declared.Refusal.{Refusal}
use Rattle.slices.specs.Refusals.{unless}
use Rattle.lasso_search.specs.Lassos.{Lent, room_fault, lasso_written}
use Rattle.lasso_search.specs.Reporting.{difference, report_of}
use Rattle.lasso_search.specs.declared.Reported.{Reported}
use Rattle.lasso_search.specs.declared.Candidate.{Candidate}
use Rattle.lasso_search.specs.declared.Codes.{Codes}
use Rattle.lasso_search.specs.declared.LassoCodes.{LassoCodes}

-- A period that is accepted at the leading state q.
pub record AcceptedPeriod (P : Fdfa) (q : ℕ) (v : Word) : Type 0 where
  pub over : Over P.letters v
  pub loops : v ≡ ε → ⊥
  pub back : run P.step q v ≡ q
  pub accepts : P.accepting q (run (P.progress q) 0 v) ≡ true

pub record AcceptedWords (P : Fdfa) (u v : Word) : Type 0 where
  pub over : Over P.letters u
  pub turn : AcceptedPeriod P (run P.step 0 u) v

-- The first of the lassos that have a property.
pub record FirstWords (P : Word → Word → Type 0) (u v : Word) : Type 0 where
  pub is : P u v
  pub least : (u' v' : Word) → P u' v' → (u ⊏ u') ⊎ ((u ≡ u') × (v ⊑ v'))

-- The first lasso by its codes: the prefix in the first n − 1 cells, the period in those behind.
pub record FirstAt (P : Word → Word → Type 0) (n : ℕ) (work : List ℕ) (z : LassoCodes) : Type 0 where
  pub u : Word
  pub v : Word
  pub u_in : z.prefix < n
  pub v_in : n - 1 + z.period ≤ length work
  pub u_path : Path (take (n - 1) work) z.prefix u
  pub v_path : Path (drop (n - 1) work) z.period v
  pub first : FirstWords P u v

-- A table has the steps of an automaton of m states, all within it.
pub record Tabulated (t : List ℕ) (m s : ℕ) (f : ℕ → ℕ → ℕ) : Type 0 where
  pub few : m ≤ 1024
  pub few_letters : s ≤ 32
  pub long : m * s ≤ length t
  pub closed : Closed s m f
  pub steps : (q a : ℕ) → q < m → a < s → row_step t s q a ≡ f q a

-- The status of a combination x before it is met: 2 where it is back at the leading state q, of n, and ends there.
abbrev pub status_of_value : Bool → ℕ
status_of_value ends = cond ends 2 1

abbrev pub fresh_at : ℕ → ℕ → (ℕ → Bool) → ℕ → ℕ
fresh_at n q ends x = status_of_value (eqb (x % n) q && ends (x / n))

pub record Fresh (status : List ℕ) (n q k : ℕ) (ends : ℕ → Bool) : Type 0 where
  pub long : length status ≡ k * n
  pub each : (x : ℕ) → x < k * n → get_or status x 0 ≡ fresh_at n q ends x

-- The pair y of progress states is marked in the first sheet and not in the second; what is read for that lies within
-- the sheets.
abbrev pub ends_at : List ℕ → List ℕ → Beside → ℕ → Bool
ends_at b c m y = eqb (get_or b (m.first + y / m.width) 0) 1 && not (eqb (get_or c (m.second + y % m.width) 0) 1)

pub record EndReads (b c : List ℕ) (m : Beside) (y : ℕ) : Type 0 where
  pub wide : 0 < m.width
  pub first : m.first + y / m.width < length b
  pub second : m.second + y % m.width < length c

-- The leading states that some prefix reaches, by codes in the order of their first prefixes.
pub record Leads (f : ℕ → ℕ → ℕ) (s n : ℕ) (front : List ℕ) (reached : ℕ) : Type 0 where
  pub W : ℕ → Word
  pub some : 1 ≤ reached
  pub most : reached ≤ n
  pub over : (j : ℕ) → j < reached → Over s (W j)
  pub paths : (j : ℕ) → j < reached → Path front j (W j)
  pub states : (j : ℕ) → j < reached → state_at 0 front j ≡ run f 0 (W j)
  pub inside : (j : ℕ) → j < reached → run f 0 (W j) < n
  pub rises : (i j : ℕ) → i ≤ j → j < reached → W i ⊑ W j
  pub all : (u : Word) → Over s u → (j : ℕ) × (j < reached) × (run f 0 (W j) ≡ run f 0 u) × (W j ⊑ u)
  pub counted : Counts (Reached s f) n reached

-- Rows, status and cells suffice for the search from each leading state.
pub record Room (P : Fdfa) (n rows status cells : ℕ) : Type 0 where
  pub all : n ≡ P.states
  pub leads : n ≤ status
  pub rows_fit : (q : ℕ) → q < n → P.size q * P.letters ≤ rows
  pub status_fit : (q : ℕ) → q < n → P.size q * n ≤ status
  pub cells_fit : (q : ℕ) → q < n → P.size q * n + 1 ≤ cells

-- The search from q is prepared for k pairs of progress states.
pub record Prepared (P : Fdfa) (n q : ℕ) (rows status : List ℕ) (k : ℕ) : Type 0 where
  pub some : 0 < k
  pub is : k ≡ P.size q
  pub tabled : Tabulated rows k P.letters (P.progress q)
  pub fresh : Fresh (take (k * n) status) n q k (P.accepting q)

-- The search from q is prepared, or none: then no period from q is accepted.
abbrev pub Preparation : Fdfa → ℕ → ℕ → List ℕ → List ℕ → Option ℕ → Type 0
Preparation P n q rows status None = (v : Word) → AcceptedPeriod P q v → ⊥
Preparation P n q rows status (Some k) = Prepared P n q rows status k

-- The states of the codes below i have no accepted period.
pub record Round (P : Fdfa) (front : List ℕ) (reached i : ℕ) : Type 0 where
  pub leads : Leads P.step P.letters P.states front reached
  pub upto : i ≤ reached
  pub none : (j : ℕ) → j < i → (v : Word) → AcceptedPeriod P (state_at 0 front j) v → ⊥

-- A code from `from` on, with its state, that the search is prepared for; the states of the codes before it have no
-- accepted period.
pub record Chosen (P : Fdfa) (n reached from : ℕ) (rows status front : List ℕ) (c : Candidate) : Type 0 where
  pub later : from ≤ c.code
  pub here : c.code < reached
  pub round : Round P front reached c.code
  pub state : c.state ≡ state_at 0 front c.code
  pub prepared : Prepared P n c.state rows status c.count

-- The next such code, or none: then no state that was reached has an accepted period.
abbrev pub Choice : Fdfa → ℕ → ℕ → ℕ → List ℕ → List ℕ → List ℕ → Option Candidate → Type 0
Choice P n reached from rows status front None = Round P front reached reached
Choice P n reached from rows status front (Some c) = Chosen P n reached from rows status front c

-- What the search goes on with. The first n − 1 cells are as before.
pub record Next (P : Fdfa) (n reached from : ℕ) (rows status before work : List ℕ) (next : Option Candidate)
    : Type 0 where
  pub kept : take (n - 1) work ≡ take (n - 1) before
  pub choice : Choice P n reached from rows status (take (n - 1) work) next

-- Tables, status and cells of these lengths suffice for the whole search.
pub record CanFind (b c : List ℕ) (t : Beside) (n leads rows status work : ℕ) : Type 0 where
  pub alike : Alike b c
  pub tables : t ≡ leads_of b c
  pub leads_fit : n * t.letters ≤ leads
  pub room : Room (difference b c) n rows status (work - (n - 1))

-- The table of the leading states is made, and those reached have their codes.
pub record Started (P : Fdfa) (n s : ℕ) (leads work : List ℕ) (reached : ℕ) : Type 0 where
  pub table : Tabulated leads n s P.step
  pub round : Round P (take (n - 1) work) reached 0

-- None or the first accepted and normalized lasso, by its codes.
abbrev pub FirstLasso : Fdfa → List ℕ → Option LassoCodes → Type 0
FirstLasso P work None = (u v : List ℕ) → Accepted P u v → ⊥
FirstLasso P work (Some z) = FirstAt (λ u v. Accepted P (letters u) (letters v)) P.states work z

-- R and the lasso.
abbrev pub Located : Fdfa → List ℕ → Codes → Type 0
Located P work c = Counts (Reached P.letters P.step) P.states c.reached × FirstLasso P work c.lasso

-- The two codes can be read back as words, from the cells before `front` and from those behind.
pub record CanTell (front : ℕ) (work : List ℕ) (z : LassoCodes) : Type 0 where
  pub fits : front ≤ length work
  pub few : front ≤ 1024
  pub prefix : Readable (take front work) z.prefix
  pub period : Readable (take (length work - front) (drop front work)) z.period

-- What is said and written of the words u and v that the codes have.
pub record Tells (front : ℕ) (work : List ℕ) (z : LassoCodes) (reached : ℕ) (before after : Lent)
    (r : Result Reported Refusal) : Type 0 where
  pub u : Word
  pub v : Word
  pub u_path : Path (take front work) z.prefix u
  pub v_path : Path (take (length work - front) (drop front work)) z.period v
  pub says : r ≡ unless (room_fault (lasso (letters u) (letters v)) before)
      (report_of reached (lasso (letters u) (letters v)))
  pub written : after ≡ lasso_written (room_fault (lasso (letters u) (letters v)) before)
      (lasso (letters u) (letters v)) before
