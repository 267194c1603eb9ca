-- Rows of numbers: one space between, a line feed after the last. Assumes nothing.
use Rattle.slices.specs.declared.Reason.{Reason}
use Rattle.slices.specs.declared.Reason.TheVariants.{OutOfTurn}
use Rattle.std.specs.Prelude.{cond, List, ℕ, ◌+◌, eqb, length, get_or}
use Prim.Native.Char.{code}
use Rattle.slices.specs.Tables.{rows}
use Rattle.numbers.specs.Digits.{field}
use Rattle.format.specs.declared.Column.{Column}
use Rattle.format.specs.declared.Row.{Row}
use Rattle.format.specs.Format.{Format, done, num, each}

-- After the i-th of m numbers stands a space; after the last, a line feed.
abbrev pub separator : ℕ → ℕ → ℕ
separator m i = cond (eqb (i + 1) m) (code "\n") (code " ")

abbrev pub column_of : Row → ℕ → Column
column_of r i = cond (eqb i 0) r.first (cond (eqb i 1) r.second (cond (eqb i 2) r.third r.rest))

-- A number and the byte that ends it, within the column that the number chooses; within one column.
abbrev pub choice : (ℕ → Column) → ℕ → Format
choice c end = num c end (λ v. done)

abbrev pub cell : Column → ℕ → Format
cell c end = choice (λ v. c) end

unfoldable pub row : Row → Format
row r = each r.count (λ i. cell (column_of r i) (separator r.count i))

-- The number that is due in its turn; a number below a limit.
abbrev pub due : ℕ → Column
due i = record { low = i; limit = i + 1; reason = OutOfTurn }

abbrev pub below : ℕ → Reason → Column
below limit reason = record { low = 0; limit = limit; reason = reason }

-- The i-th of rows that are numbered in their first column (turn 0) or in their second.
abbrev pub numbered : Row → ℕ → ℕ → Row
numbered r turn i =
    cond (eqb turn 0)
    (record { first = due i; second = r.second; third = r.third; rest = r.rest; count = r.count })
    (record { first = r.first; second = due i; third = r.third; rest = r.rest; count = r.count })

-- The line of some numbers.
abbrev pub line : List ℕ → List ℕ
line vs = rows (length vs) (λ i. field (get_or vs i 0) (separator (length vs) i))
