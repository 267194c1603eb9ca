-- The numbers of a text: the blocks before the last, read from left to right, and what the numbers say. Assumes
-- nothing.
use Rattle.slices.specs.declared.Refusal.{Refusal}
use Rattle.std.specs.Prelude.{List, ◌++◌, ℕ, ◌+◌, ◌*◌, eqb, get_or, Result, Ok, Err}
use Rattle.slices.specs.declared.Part.TheVariants.{First}
use Rattle.slices.specs.Tables.{tab, sum}
use Rattle.fdfa.specs.Family.{Fdfa}
use Rattle.format.specs.Format.{Found, reading}
use Rattle.blocks.specs.Text.{timed, counts_format, seconds_format, leading_format, level_in, letters_in, states_in}
use Rattle.blocks.specs.Text.{leading_in, size_in}

-- What follows what was read: of its numbers and the place after it.
abbrev pub following : {A : Type 0} → Result Found Refusal → (List ℕ → ℕ → Result A Refusal) → Result A Refusal
following (Ok f) go = go f.values f.next
following (Err r) go = Err r

-- The numbers before the last block: the front, and the timings, those of the rows of seconds, scene and seconds in
-- turn, of which level three has none; and the place after them.
pub record Blocks : Type 0 where
  pub front : List ℕ
  pub timings : List ℕ
  pub next : ℕ

-- After the counts come the seconds, then the leading automaton.
unfoldable pub blocks_from : List ℕ → List ℕ → ℕ → Result Blocks Refusal
blocks_from t counts at =
    following (reading First t (seconds_format (level_in counts) (letters_in counts)) at)
    (λ timings at. following (reading First t (leading_format (letters_in counts) (states_in counts)) at)
    (λ leading at. Ok (record { front = counts ++ leading; timings = timings; next = at })))

unfoldable pub blocks_of : List ℕ → Result Blocks Refusal
blocks_of t = following (reading First t counts_format 0) (blocks_from t)

-- The numbers of row p of the progress automaton of q come after those of all rows before it.
abbrev pub progress_in : List ℕ → List ℕ → ℕ → ℕ → ℕ → ℕ
progress_in front parts q p i = get_or parts ((sum q (size_in front) + p) * (letters_in front + 3) + i) 0

-- The family that the numbers say.
abbrev pub family_of : List ℕ → List ℕ → Fdfa
family_of front parts = record {
  letters = letters_in front;
  states = states_in front;
  step = λ q a. leading_in front q (2 + a);
  size = size_in front;
  progress = λ q p a. progress_in front parts q p (3 + a);
  accepting = λ q p. eqb (progress_in front parts q p 2) 1;
}

-- The seconds that the timings say, one cell for each of m letters; of each letter that has some.
abbrev pub cells_of : ℕ → List ℕ → List ℕ
cells_of m timings = tab m (λ a. get_or timings (a * 2 + 1) 0)

abbrev pub times_of : List ℕ → List ℕ → List ℕ
times_of front timings = cells_of (timed (level_in front) (letters_in front)) timings
