-- The answer slice of the calls for C (docs/ANSWER.md): what a call says, as numbers of 8 bytes each, low byte first.
-- Assumes nothing.
use Rattle.std.specs.Prelude.{Result, Ok, Err}
use Rattle.slices.specs.declared.Refusal.{Refusal}
use Rattle.std.specs.Prelude.{◌≡◌, cond, List, [], ◌∷◌, ℕ, ◌+◌, ◌*◌, ◌/◌, ◌%◌, ◌^◌, ltb, length, get_or}
use Rattle.slices.specs.declared.Part.{Part}
use Rattle.slices.specs.declared.Part.TheVariants.{First, Second, Opening, Loop, Out, Work, Cursor, Seconds}
use Rattle.slices.specs.Refusals.{Fault, number_of, unless}
use Rattle.slices.specs.Filling.{written, filled}
use Rattle.slices.specs.Tables.{tab, rows}

abbrev pub number_bytes : ℕ → List ℕ
number_bytes x = tab 8 (λ i. x / 256 ^ i % 256)

-- The number that bytes say, low byte first: the header's `fdfa_number`.
unfoldable pub number_said : List ℕ → ℕ
number_said [] = 0
number_said (x ∷ xs) = x + 256 * number_said xs

abbrev pub layout : List ℕ → List ℕ
layout ns = rows (length ns) (λ k. number_bytes (get_or ns k 0))

abbrev pub part_number_of : Part → ℕ
part_number_of First = 0
part_number_of Second = 1
part_number_of Opening = 2
part_number_of Loop = 3
part_number_of Out = 4
part_number_of Work = 5
part_number_of Cursor = 6
part_number_of Seconds = 7

-- A refusal as numbers: its number, its part and its place.
abbrev pub refusal_numbers_of : Refusal → List ℕ
refusal_numbers_of r = number_of r.reason ∷ part_number_of r.part ∷ r.place ∷ []

-- A result as numbers: 0 and those of the answer, or those of the refusal.
abbrev pub numbers_of : {A : Type 0} → (A → List ℕ) → Result A Refusal → List ℕ
numbers_of f (Ok a) = 0 ∷ f a
numbers_of f (Err r) = refusal_numbers_of r

-- So many numbers: 0 behind those that there are.
abbrev pub padded : ℕ → List ℕ → List ℕ
padded count ns = tab count (λ k. get_or ns k 0)

-- Where the answer slice has no room for so many numbers nothing changes.
abbrev pub unless_short : {A : Type 0} → ℕ → List ℕ → A → A → A
unless_short count answer old new = cond (ltb (length answer) (8 * count)) old new

-- What a call returns and leaves in the answer slice: its numbers, and behind them what was there.
pub record Told (count : ℕ) (numbers answer answer' : List ℕ) (r : ℕ) : Type 0 where
  pub returned : r ≡ unless_short count answer 0 1
  pub cells : answer' ≡ unless_short count answer answer (written (layout (padded count numbers)) answer)

-- A call that fills the out slice with a result: it tells how many cells that takes, or the refusal.
pub record FillTold (f : Fault) (new out answer out' answer' : List ℕ) (r : ℕ) : Type 0 where
  pub tells : Told 3 (numbers_of (λ n. n ∷ []) (unless f (length new))) answer answer' r
  pub cells : out' ≡ unless_short 3 answer out (filled f new out)
