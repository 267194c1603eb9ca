-- Families of DFAs (002, Definition 3.1), and the walk of an automaton over a word. Assumes nothing.
use Rattle.std.specs.Prelude.{◌≡◌, Bool, List, [], ◌∷◌, ℕ, ◌<◌}
use Rattle.fdfa.specs.Words.{Over}

-- A family of DFAs (01: a sheet). States and letters (01: places and scenes) are numbered from 0, and state 0 of each
-- automaton is its start.
pub record Fdfa : Type 0 where
  pub letters : ℕ
  -- the leading automaton
  pub states : ℕ
  pub step : ℕ → ℕ → ℕ
  -- the progress automaton of each leading state q (01: the loop automaton of q), with its accepting states (01:
  -- marked places)
  pub size : ℕ → ℕ
  pub progress : ℕ → ℕ → ℕ → ℕ
  pub accepting : ℕ → ℕ → Bool

-- Each of n states leads to one of them by each of s letters.
abbrev pub Closed : ℕ → ℕ → (ℕ → ℕ → ℕ) → Type 0
Closed s n f = (q a : ℕ) → q < n → a < s → f q a < n

-- All automata of the family are complete and deterministic, and have their start.
pub record Complete (F : Fdfa) : Type 0 where
  pub start : 0 < F.states
  pub leads : Closed F.letters F.states F.step
  pub starts : (q : ℕ) → q < F.states → 0 < F.size q
  pub progresses : (q : ℕ) → q < F.states → Closed F.letters (F.size q) (F.progress q)

-- Two families that are the same on their states and letters.
pub record Agrees (F G : Fdfa) : Type 0 where
  pub letters : F.letters ≡ G.letters
  pub states : F.states ≡ G.states
  pub steps : (q a : ℕ) → q < F.states → a < F.letters → F.step q a ≡ G.step q a
  pub sizes : (q : ℕ) → q < F.states → F.size q ≡ G.size q
  pub progresses : (q p a : ℕ) → q < F.states → p < F.size q → a < F.letters → F.progress q p a ≡ G.progress q p a
  pub marks : (q p : ℕ) → q < F.states → p < F.size q → F.accepting q p ≡ G.accepting q p

-- The state that the automaton f stands at after the word, from q.
abbrev pub walk : (ℕ → ℕ → ℕ) → ℕ → List ℕ → ℕ
walk f q [] = q
walk f q (a ∷ w) = walk f (f q a) w

-- The two words of a pair, whatever their letters.
pub record Words : Type 0 where
  pub prefix : List ℕ
  pub period : List ℕ

-- A lasso (01: a show): a prefix u (01: the opening), which may be empty, and a period v (01: the loop), which may not.
pub record Lasso (s : ℕ) (u v : List ℕ) : Type 0 where
  pub prefix : Over s u
  pub period : Over s v
  pub loops : v ≡ [] → ⊥
