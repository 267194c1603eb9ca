-- Words as snoc lists, their shortlex order, and the run of an automaton over a word. Assumes nothing.
use Rattle.std.specs.Prelude.{List, [], ◌∷◌, ◌++◌, ℕ, suc, ◌<◌}

infixl 60 ◌·◌
infix 20 ◌⊏◌ ◌⊑◌
-- the empty word, or a word and one more letter at its end
pub data Word : Type 0 where
  ε : Word
  ◌·◌ : Word → ℕ → Word

-- shorter first, and words of one length by their first difference
pub data ◌⊏◌ : Word → Word → Type 0 where
  short : {w : Word} {a : ℕ} → ε ⊏ (w · a)
  front : {v w : Word} {a b : ℕ} → v ⊏ w → (v · a) ⊏ (w · b)
  last : {w : Word} {a b : ℕ} → a < b → (w · a) ⊏ (w · b)

pub data ◌⊑◌ : Word → Word → Type 0 where
  same : {w : Word} → w ⊑ w
  less : {v w : Word} → v ⊏ w → v ⊑ w

abbrev pub run : (ℕ → ℕ → ℕ) → ℕ → Word → ℕ
run f r ε = r
run f r (w · a) = f (run f r w) a

abbrev pub Over : ℕ → Word → Type 0
Over s ε = Unit {0}
Over s (w · a) = Over s w × (a < s)

-- how many letters, and the letters in order
abbrev pub size : Word → ℕ
size ε = 0
size (w · a) = suc (size w)

abbrev pub letters : Word → List ℕ
letters ε = []
letters (w · a) = letters w ++ (a ∷ [])
