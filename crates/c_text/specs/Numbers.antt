-- What the readers of texts say, as numbers, and what they leave in the lent slices. Assumes nothing.
use Rattle.slices.specs.declared.Refusal.{Refusal}
use Rattle.std.specs.Prelude.{◌≡◌, List, [], ◌∷◌, ℕ, length, Result}
use Rattle.slices.specs.Refusals.{Fault, unless}
use Rattle.slices.specs.Filling.{filled}
use Rattle.numbers.specs.declared.Number.{Number}
use Rattle.notation.specs.declared.Levelled.{Levelled}
use Rattle.notation.specs.Reading as notation
use Rattle.answers.specs.Layout.{numbers_of, unless_short, Told}

-- A number that was read, and the place after it.
abbrev pub read_numbers : Number → List ℕ
read_numbers x = x.value ∷ x.next ∷ []

-- The level of a sheet's text, and the length of the packed sheet.
abbrev pub sheet_numbers_of : Levelled → List ℕ
sheet_numbers_of x = x.level ∷ x.filled ∷ []

-- Reading a sheet's text: what is told, the packed sheet and the seconds.
abbrev pub sheet_read_fault : Result notation.Sheet Refusal → List ℕ → List ℕ → Fault
sheet_read_fault x out seconds = notation.read_fault x (length out) (length seconds)

abbrev pub sheet_says : Result notation.Sheet Refusal → List ℕ → List ℕ → Result Levelled Refusal
sheet_says x out seconds = unless (sheet_read_fault x out seconds) (notation.told_of (notation.said x))

pub record SheetTold (x : Result notation.Sheet Refusal) (out seconds answer out' seconds' answer' : List ℕ) (r : ℕ)
    : Type 0 where
  pub tells : Told 3 (numbers_of sheet_numbers_of (sheet_says x out seconds)) answer answer' r
  pub sheet : out' ≡ unless_short 3 answer out (filled (sheet_read_fault x out seconds) (notation.said x).bytes out)
  pub times : seconds'
      ≡ unless_short 3 answer seconds (filled (sheet_read_fault x out seconds) (notation.said x).seconds seconds)
