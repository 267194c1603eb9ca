-- A running sheet as text: the block `part scene seconds`, then the block `opening loop`. Assumes nothing.
use Rattle.std.specs.Prelude.{List, [], ◌∷◌, ◌++◌, ℕ}
use Prim.Native.Char.{code}
use Rattle.slices.specs.Texts.{bytes}
use Rattle.numbers.specs.Digits.{field}
use Rattle.lasso_text.specs.Text.{prefix_name, period_name}
use Rattle.running_sheet.specs.Lines.{ShowPart, opening, loop, Line, show_lines, total}

-- The lines of names.
abbrev pub title : List ℕ
title = bytes "part scene seconds\n"

abbrev pub totals_title : List ℕ
totals_title = bytes "opening loop\n"

-- What begins a line of a part: `opening ` or `loop `, as in the show's text.
abbrev pub line_start : ShowPart → List ℕ
line_start opening = prefix_name
line_start loop = period_name

-- A line up to its letter, and the byte that ends it: with a line feed this is a line of the show's text.
abbrev pub scene_text : Line → ℕ → List ℕ
scene_text l end = line_start l.part ++ field l.letter end

-- The line with its seconds.
abbrev pub line_text : Line → List ℕ
line_text l = scene_text l (code " ") ++ field l.seconds (code "\n")

-- A block: its line of names, then a text for each line, one after the other.
unfoldable pub each_text : (Line → List ℕ) → List Line → List ℕ
each_text f [] = []
each_text f (l ∷ ls) = f l ++ each_text f ls

abbrev pub block_of : List ℕ → (Line → List ℕ) → List Line → List ℕ
block_of names f ls = names ++ each_text f ls

-- The block of the totals.
abbrev pub totals_text : ℕ → ℕ → List ℕ
totals_text m n = totals_title ++ field m (code " ") ++ field n (code "\n")

-- The lines, then the totals of these lines.
unfoldable pub running_text : List Line → List ℕ
running_text ls = block_of title line_text ls ++ totals_text (total opening ls) (total loop ls)

-- The running sheet of the show (u, v), whose letters' seconds are the cells w.
abbrev pub running_sheet_of : List ℕ → List ℕ → List ℕ → List ℕ
running_sheet_of u v w = running_text (show_lines u v w)
