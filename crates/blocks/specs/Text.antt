-- The sheet as text (01, and level four of F-5): blocks, each a line of names and then rows of numbers in that order.
-- One description of each block serves reading and writing, with the level as a parameter. Assumes nothing.
use Rattle.slices.specs.declared.Reason.{Reason}
use Rattle.slices.specs.declared.Reason.TheVariants.{LetterCount, StateCount, ProgressSize, NextState, MarkByte}
use Rattle.slices.specs.declared.Reason.TheVariants.{UnknownLevel, SecondsRange}
use Rattle.std.specs.Prelude.{cond, List, [], ◌∷◌, ◌++◌, ℕ, ◌+◌, ◌*◌, eqb, get_or}
use Rattle.fdfa.specs.Family.{Fdfa}
use Rattle.slices.specs.Tables.{tab, rows}
use Rattle.slices.specs.Texts.{bytes}
use Rattle.packed.specs.Layout.{decode, mark}
use Rattle.numbers.specs.Digits.{digits_of}
use Rattle.format.specs.declared.Column.{Column}
use Rattle.format.specs.declared.Row.{Row}
use Rattle.format.specs.Format.{Format, printed, seq, each, literal}
use Rattle.format.specs.Rows.{row, due, below}

-- The names of s letters, each after a space: s0, s1, ..
abbrev pub names : ℕ → List ℕ
names s = rows s (λ a. bytes " s" ++ digits_of a)

-- The titles of the blocks; two of them go on with the names of the letters.
abbrev pub counts_title : List ℕ
counts_title = bytes "level scenes places\n"

abbrev pub times_title : List ℕ
times_title = bytes "scene seconds\n"

abbrev pub leading_title : List ℕ
leading_title = bytes "place loops"

abbrev pub progress_title : List ℕ
progress_title = bytes "place loop mark"

-- A line of names: a title, the names of the letters, a line feed.
abbrev pub head : List ℕ → ℕ → Format
head title s = seq (seq (literal title) (λ vs. literal (names s))) (λ vs. literal (bytes "\n"))

-- A count from 1 to 32.
abbrev pub counted : Reason → Column
counted reason = record { low = 1; limit = 33; reason = reason }

-- What level four has and level three has not: the title of the seconds, and how many letters have some, all of them or
-- none.
unfoldable pub seconds_title : ℕ → List ℕ
seconds_title level = cond (eqb level 4) times_title []

unfoldable pub timed : ℕ → ℕ → ℕ
timed level s = cond (eqb level 4) s 0

-- Seconds from 1 to 999.
abbrev pub duration : Column
duration = record { low = 1; limit = 1000; reason = SecondsRange }

-- The rows of the blocks. The level is 3 or 4; `loops` is k(q).
abbrev pub counts_row_of : Row
counts_row_of = record {
  first = record { low = 3; limit = 5; reason = UnknownLevel };
  second = counted LetterCount;
  third = counted StateCount;
  rest = counted StateCount;
  count = 3;
}

abbrev pub seconds_row_of : ℕ → Row
seconds_row_of a = record { first = due a; second = duration; third = duration; rest = duration; count = 2 }

abbrev pub leading_row_of : ℕ → ℕ → ℕ → Row
leading_row_of s n q = record {
  first = due q;
  second = counted ProgressSize;
  third = below n NextState;
  rest = below n NextState;
  count = s + 2;
}

abbrev pub progress_row_of : ℕ → ℕ → ℕ → ℕ → Row
progress_row_of s q k p = record {
  first = due q;
  second = due p;
  third = below 2 MarkByte;
  rest = below k NextState;
  count = s + 3;
}

-- The block of the counts; that of the seconds, of which level three has nothing; that of the leading automaton; the
-- rows and the block of the progress automata.
abbrev pub counts_format : Format
counts_format = seq (literal counts_title) (λ vs. row counts_row_of)

unfoldable pub seconds_format : ℕ → ℕ → Format
seconds_format level s = seq (literal (seconds_title level)) (λ vs. each (timed level s) (λ a. row (seconds_row_of a)))

abbrev pub leading_format : ℕ → ℕ → Format
leading_format s n = seq (head leading_title s) (λ vs. each n (λ q. row (leading_row_of s n q)))

abbrev pub part_format : ℕ → ℕ → ℕ → Format
part_format s k q = each k (λ p. row (progress_row_of s q k p))

abbrev pub progress_format : ℕ → ℕ → (ℕ → ℕ) → Format
progress_format s n size = seq (head progress_title s) (λ vs. each n (λ q. part_format s (size q) q))

-- The numbers of the counts and of the leading automaton, the front: level, s, n, then rows of s + 2.
abbrev pub level_in : List ℕ → ℕ
level_in front = get_or front 0 0

abbrev pub letters_in : List ℕ → ℕ
letters_in front = get_or front 1 0

abbrev pub states_in : List ℕ → ℕ
states_in front = get_or front 2 0

abbrev pub leading_in : List ℕ → ℕ → ℕ → ℕ
leading_in front q i = get_or front (3 + (q * (letters_in front + 2) + i)) 0

abbrev pub size_in : List ℕ → ℕ → ℕ
size_in front q = leading_in front q 1

-- The block of the progress automata, which depends on the front.
unfoldable pub parts_format : List ℕ → Format
parts_format front = progress_format (letters_in front) (states_in front) (size_in front)

-- The numbers of a family at a level, block by block; the seconds are those of the letters, one cell each.
abbrev pub counts_of : ℕ → Fdfa → List ℕ
counts_of level F = level ∷ F.letters ∷ F.states ∷ []

abbrev pub seconds_values : List ℕ → ℕ → List ℕ
seconds_values w a = a ∷ get_or w a 0 ∷ []

unfoldable pub seconds_of : ℕ → ℕ → List ℕ → List ℕ
seconds_of level s w = rows (timed level s) (seconds_values w)

abbrev pub leading_values_of : Fdfa → ℕ → List ℕ
leading_values_of F q = q ∷ F.size q ∷ tab F.letters (F.step q)

unfoldable pub leading_of : Fdfa → List ℕ
leading_of F = rows F.states (leading_values_of F)

abbrev pub progress_values_of : Fdfa → ℕ → ℕ → List ℕ
progress_values_of F q p = q ∷ p ∷ mark (F.accepting q p) ∷ tab F.letters (F.progress q p)

unfoldable pub parts_of : Fdfa → List ℕ
parts_of F = rows F.states (λ q. rows (F.size q) (progress_values_of F q))

abbrev pub front_of : ℕ → Fdfa → List ℕ
front_of level F = counts_of level F ++ leading_of F

-- The text of a family at a level, with the seconds of its letters.
abbrev pub text_for : ℕ → List ℕ → Fdfa → List ℕ
text_for level w F =
    printed counts_format (counts_of level F)
    ++ (printed (seconds_format level F.letters) (seconds_of level F.letters w)
    ++ (printed (leading_format F.letters F.states) (leading_of F)
    ++ printed (parts_format (front_of level F)) (parts_of F)))

-- The text of a packed sheet at a level, with the seconds of its letters.
unfoldable pub text_of : ℕ → List ℕ → List ℕ → List ℕ
text_of level w b = text_for level w (decode b)
