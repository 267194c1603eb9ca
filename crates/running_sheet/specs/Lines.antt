-- The lines of a running sheet (F-6), one for each letter of a show, and the totals of these lines. Assumes nothing.
use Rattle.std.specs.Prelude.{List, [], ◌∷◌, ◌++◌, ℕ, ◌+◌, get_or}

pub data ShowPart : Type 0 where
  opening : ShowPart
  loop : ShowPart

pub record Line : Type 0 where
  pub part : ShowPart
  pub letter : ℕ
  pub seconds : ℕ

-- The lines of a part: its letters in turn, each with the seconds of its cell. The cells are w.
unfoldable pub part_lines : ShowPart → List ℕ → List ℕ → List Line
part_lines part [] w = []
part_lines part (a ∷ x) w = record { part = part; letter = a; seconds = get_or w a 0 } ∷ part_lines part x w

-- The lines of the show (u, v): those of the opening, then those of the loop.
unfoldable pub show_lines : List ℕ → List ℕ → List ℕ → List Line
show_lines u v w = part_lines opening u w ++ part_lines loop v w

-- What a line adds to the total of a part: its seconds where it is a line of that part.
abbrev pub adds : ShowPart → ShowPart → ℕ → ℕ
adds opening opening seconds = seconds
adds opening loop seconds = 0
adds loop opening seconds = 0
adds loop loop seconds = seconds

-- The total of a part: the sum of the seconds on that part's lines.
unfoldable pub total : ShowPart → List Line → ℕ
total part [] = 0
total part (l ∷ ls) = adds part l.part l.seconds + total part ls
