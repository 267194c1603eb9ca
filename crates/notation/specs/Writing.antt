-- Writing the text of a packed sheet at a level. Assumes nothing.
use Rattle.slices.specs.declared.Reason.TheVariants.{UnknownLevel, TooLittleRoom}
use Rattle.std.specs.Prelude.{◌≡◌, List, ℕ, ◌≤◌, ◌<◌, ltb, length}
use Rattle.slices.specs.declared.Part.TheVariants.{First, Out}
use Rattle.slices.specs.Refusals.{Fault, ◌then◌, when}
use Rattle.slices.specs.Scans.{outside}
use Rattle.slices.specs.Seconds.{seconds_fault, TimesFit}
use Rattle.packed.specs.Layout.{letter_count, Valid}
use Rattle.packed.specs.Faults.{sheet_fault}
use Rattle.blocks.specs.Text.{timed, text_of}
use Rattle.notation.specs.Reading.{Sheet}

-- Too little room in the out slice.
abbrev pub out_fault : List ℕ → ℕ → Fault
out_fault text room = when (ltb room (length text)) TooLittleRoom Out (length text)

-- The seconds of the letters that have some, then the out slice.
abbrev pub times_fault : ℕ → List ℕ → List ℕ → ℕ → Fault
times_fault level w b room = seconds_fault (timed level (letter_count b)) w then out_fault (text_of level w b) room

-- A level that is neither 3 nor 4; the sheet's fault; the seconds; the out slice.
unfoldable pub write_fault : ℕ → List ℕ → List ℕ → ℕ → Fault
write_fault level w b room = when (outside 3 5 level) UnknownLevel First 0 then sheet_fault First b
    then times_fault level w b room

-- The text of a sheet with its level and its seconds, and which have one: at level 3 or 4 a valid sheet, with one cell
-- from 1 to 999 for each letter that has seconds, and no other.
abbrev pub sheet_text : Sheet → List ℕ
sheet_text x = text_of x.level x.seconds x.bytes

pub record Writable (x : Sheet) : Type 0 where
  pub low : 3 ≤ x.level
  pub high : x.level < 5
  pub valid : Valid x.bytes
  pub exact : length x.seconds ≡ timed x.level (letter_count x.bytes)
  pub times : TimesFit (timed x.level (letter_count x.bytes)) x.seconds
