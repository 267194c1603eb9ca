-- The seconds of letters, one cell of 16 bits for each, judged. Assumes nothing.
use Rattle.slices.specs.declared.Reason.TheVariants.{SecondsRange, TooLittleRoom}
use Rattle.std.specs.Prelude.{List, ℕ, ◌≤◌, ◌<◌, ltb, length, get_or}
use Rattle.slices.specs.declared.Part.TheVariants.{Seconds}
use Rattle.slices.specs.Refusals.{Fault, ◌then◌, when}
use Rattle.slices.specs.Scans.{scan}

-- Of m letters: fewer cells than letters, then the first cell of a letter that is not from 1 to 999. Cells behind those
-- are not judged.
unfoldable pub seconds_fault : ℕ → List ℕ → Fault
seconds_fault m w = when (ltb (length w) m) TooLittleRoom Seconds m then scan SecondsRange Seconds 1 1000 w 0 m

-- Where `seconds_fault` refuses nothing: each letter has its cell, from 1 to 999.
pub record TimesFit (m : ℕ) (w : List ℕ) : Type 0 where
  pub many : m ≤ length w
  pub good : (a : ℕ) → a < m → (1 ≤ get_or w a 0) × (get_or w a 0 < 1000)
