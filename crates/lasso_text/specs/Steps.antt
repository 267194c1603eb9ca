-- What inner functions say of reading. Assumes nothing.
use Rattle.slices.specs.declared.Refusal.{Refusal}
use Rattle.std.specs.Prelude.{◌≡◌, List, ℕ, length, Result, Ok}
use Rattle.slices.specs.Refusals.{mapped}
use Rattle.slices.specs.declared.Part.{Part}
use Rattle.fdfa.specs.Family.{Words}
use Rattle.numbers.specs.Storing.{Stored}
use Rattle.format.specs.Format.{Found}
use Rattle.lasso_text.specs.declared.Lengths.{Lengths}
use Rattle.lasso_text.specs.Reading.{ended, sizes_of}

abbrev pub measured : Result Words Refusal → Result Lengths Refusal
measured x = mapped sizes_of x

-- The words of a text are at the start of two lent slices, each letter where there is room for it; a refusal leaves
-- the cells open.
pub record WordsRead (x : Result Words Refusal) (o p o' p' : List ℕ) (r : Result Lengths Refusal) : Type 0 where
  pub says : r ≡ measured x
  pub same_opening : length o' ≡ length o
  pub same_period : length p' ≡ length p
  pub opening : (w : Words) → x ≡ Ok w → Stored o 0 w.prefix o' (length w.prefix)
  pub period : (w : Words) → x ≡ Ok w → Stored p 0 w.period p' (length w.period)

-- The same of the period alone, whose lines are x, after m letters of a prefix.
pub record PeriodRead (part : Part) (t : List ℕ) (x : Result Found Refusal) (m : ℕ) (p p' : List ℕ)
    (r : Result Lengths Refusal) : Type 0 where
  pub says : (u : List ℕ) → length u ≡ m → r ≡ measured (ended part t u x)
  pub same : length p' ≡ length p
  pub cells : (w : Found) → x ≡ Ok w → Stored p 0 w.values p' (length w.values)
