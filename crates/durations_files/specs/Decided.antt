-- What the durations program decides of the bytes that came of two files, up to 65,537 of each: a sheet's text, and a
-- show's. Assumes nothing.
use Rattle.slices.specs.declared.Refusal.{Refusal}
use Rattle.std.specs.Prelude.{List, ℕ, length, Result, Ok, Err}
use Rattle.slices.specs.Refusals.{Fault, ◌then◌, unless, mapped}
use Rattle.notation.specs.Reading.{Sheet, sheet_in}
use Rattle.sheet_forms.specs.Forms.{bytes_from}
use Rattle.lasso_text.specs.Reading.{words_in, read_fault}
use Rattle.running_sheet.specs.Text.{running_sheet_of}
use Rattle.running_sheet.specs.Writing.{input_fault}
use Rattle.show_files.specs.Shown.{shown}
use Rattle.console.specs.Files.{lengths_fault, after}

-- The seconds that a sheet's text has, or its refusal: a cell for each letter at level four, none at level three.
abbrev pub seconds_in : Sheet → List ℕ
seconds_in x = x.seconds

abbrev pub cells_in : List ℕ → Result (List ℕ) Refusal
cells_in b = mapped seconds_in (sheet_in b)

-- How many; none where the text is not read.
abbrev pub cell_count : List ℕ → ℕ
cell_count b = length (bytes_from (cells_in b))

-- The show's opening and loop.
abbrev pub prefix_shown : List ℕ → List ℕ
prefix_shown t = (words_in (shown t)).prefix

abbrev pub period_shown : List ℕ → List ℕ
period_shown t = (words_in (shown t)).period

-- The show's text, then the room for 4,096 letters of each part, then what the running sheet is refused for: letters
-- that have no cell.
abbrev pub running_fault : List ℕ → List ℕ → Fault
running_fault w t = read_fault (shown t) 4096 4096 then input_fault (prefix_shown t) (period_shown t) w

-- The running sheet of the show of a text, whose letters' seconds are the cells w; or the refusal.
unfoldable pub running : List ℕ → List ℕ → Result (List ℕ) Refusal
running w t = unless (running_fault w t) (running_sheet_of (prefix_shown t) (period_shown t) w)

-- The same with the cells of a sheet's text, which is refused first.
abbrev pub of_cells : Result (List ℕ) Refusal → List ℕ → Result (List ℕ) Refusal
of_cells (Err r) t = Err r
of_cells (Ok w) t = running w t

-- Files that are too long are refused before all else.
unfoldable pub decided : List ℕ → List ℕ → Result (List ℕ) Refusal
decided b t = after (lengths_fault (length b) (length t)) (of_cells (cells_in b) t)
