-- A running sheet by the places of its letters, line after line, and how long a word lasts; `text-lines`,
-- `opening-total` and `loop-total` say that this is it. Assumes nothing.
use Rattle.std.specs.Prelude.{List, ◌++◌, ℕ, length, get_or}
use Prim.Native.Char.{code}
use Rattle.slices.specs.Tables.{rows, sum}
use Rattle.numbers.specs.Digits.{field}
use Rattle.running_sheet.specs.Lines.{opening, loop}
use Rattle.running_sheet.specs.Text.{title, line_start}

-- The seconds of a word's i-th letter, where w are the cells.
abbrev pub seconds_at : List ℕ → List ℕ → ℕ → ℕ
seconds_at x w i = get_or w (get_or x i 0) 0

-- The line of a letter; `start` begins the lines of its part.
abbrev pub timed_line : List ℕ → ℕ → ℕ → List ℕ
timed_line start letter seconds = start ++ field letter (code " ") ++ field seconds (code "\n")

abbrev pub line_at : List ℕ → List ℕ → List ℕ → ℕ → List ℕ
line_at start x w i = timed_line start (get_or x i 0) (seconds_at x w i)

-- The lines of a word.
unfoldable pub timed_lines : List ℕ → List ℕ → List ℕ → List ℕ
timed_lines start x w = rows (length x) (line_at start x w)

-- The first block.
abbrev pub first_block : List ℕ → List ℕ → List ℕ → List ℕ
first_block u v w = title ++ timed_lines (line_start opening) u w ++ timed_lines (line_start loop) v w

-- How long a word lasts.
unfoldable pub lasting : List ℕ → List ℕ → ℕ
lasting x w = sum (length x) (seconds_at x w)
