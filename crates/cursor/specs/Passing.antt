-- A step within one word, as the inner function `pass` makes it. Assumes nothing.
use Rattle.slices.specs.declared.Reason.TheVariants.{CursorPastEnd}
use Rattle.std.specs.Prelude.{List, ℕ, leb, length, get_or}
use Rattle.slices.specs.declared.Part.TheVariants as part
use Rattle.slices.specs.Refusals.{when}
use Rattle.cursor.specs.declared.Cursor.{Cursor}
use Rattle.cursor.specs.declared.Step.{Step}
use Rattle.cursor.specs.Walking.{next_in, unless_stays}

-- The letter at the cursor in its word and the cursor moved, or the refusal of a position past its end.
abbrev pub passed_in : Cursor → List ℕ → Step
passed_in c w =
    unless_stays (when (leb (length w) c.at) CursorPastEnd part.Cursor c.at) c (get_or w c.at 0) (next_in c w)
