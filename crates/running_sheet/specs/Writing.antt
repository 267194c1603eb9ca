-- What writing a running sheet is refused for. Assumes nothing.
use Rattle.slices.specs.declared.Reason.TheVariants.{SecondsRange, PartTooLong}
use Rattle.std.specs.Prelude.{List, ℕ, ◌≤◌, ltb, length}
use Rattle.slices.specs.declared.Part.{Part}
use Rattle.slices.specs.declared.Part.TheVariants.{Opening, Loop, Out, Seconds}
use Rattle.slices.specs.Refusals.{Fault, ◌then◌, when, short}
use Rattle.slices.specs.Scans.{scan}
use Rattle.slices.specs.LassoLetters.{letters_fault}
use Rattle.slices.specs.Seconds.{TimesFit}
use Rattle.fdfa.specs.Family.{Lasso}
use Rattle.running_sheet.specs.Text.{running_sheet_of}

-- A part of more than 65,536 letters is too long.
abbrev pub long_fault : Part → List ℕ → Fault
long_fault part x = when (ltb 65536 (length x)) PartTooLong part 65536

-- The seconds' range: the first cell that is not from 1 to 999; cells of letters that the show lacks are judged too.
abbrev pub cell_fault : List ℕ → Fault
cell_fault w = scan SecondsRange Seconds 1 1000 w 0 (length w)

-- The letters of the opening, whether the loop is empty, the letters of the loop, where a letter is known if it has a
-- cell; then all cells; then the lengths.
unfoldable pub input_fault : List ℕ → List ℕ → List ℕ → Fault
input_fault u v w = letters_fault (length w) u v then cell_fault w then long_fault Opening u then long_fault Loop v

-- The show and the cells, then the out slice.
abbrev pub write_fault : List ℕ → List ℕ → List ℕ → ℕ → Fault
write_fault u v w room = input_fault u v w then short Out room (length (running_sheet_of u v w))

-- Which shows have a running sheet, where w are the cells: exactly those that `input_fault` does not refuse.
pub record Printable (u v w : List ℕ) : Type 0 where
  pub lasso : Lasso (length w) u v
  pub times : TimesFit (length w) w
  pub prefix_few : length u ≤ 65536
  pub period_few : length v ≤ 65536
