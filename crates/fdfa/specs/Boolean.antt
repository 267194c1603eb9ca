-- Complement, intersection and union (002, Theorems 4.1 and 4.3). Assumes nothing.
use Rattle.std.specs.Prelude.{Bool, not, ◌&&◌, ◌||◌, ℕ, ◌+◌, ◌*◌, ◌/◌, ◌%◌}
use Rattle.fdfa.specs.Family.{Fdfa}

-- The same family, every mark flipped (01: turned).
abbrev pub complement : Fdfa → Fdfa
complement F = record {
  letters = F.letters;
  states = F.states;
  step = F.step;
  size = F.size;
  progress = F.progress;
  accepting = λ q p. not (F.accepting q p);
}

-- Two automata side by side, the second of k states: the pair (x, y) has the number x × k + y.
abbrev pub beside : ℕ → (ℕ → ℕ → ℕ) → (ℕ → ℕ → ℕ) → ℕ → ℕ → ℕ
beside k f g x a = f (x / k) a * k + g (x % k) a

-- The full product, reachable or not; `op` of the two marks is the pair's.
abbrev pub product : (Bool → Bool → Bool) → Fdfa → Fdfa → Fdfa
product op F G = record {
  letters = F.letters;
  states = F.states * G.states;
  step = beside G.states F.step G.step;
  size = λ x. F.size (x / G.states) * G.size (x % G.states);
  progress = λ x. beside (G.size (x % G.states)) (F.progress (x / G.states)) (G.progress (x % G.states));
  accepting = λ x y. op (F.accepting (x / G.states) (y / G.size (x % G.states)))
      (G.accepting (x % G.states) (y % G.size (x % G.states)));
}

-- Accepting (01: marked) when both are, or when either is.
abbrev pub intersection : Fdfa → Fdfa → Fdfa
intersection F G = product ◌&&◌ F G

abbrev pub union : Fdfa → Fdfa → Fdfa
union F G = product ◌||◌ F G
