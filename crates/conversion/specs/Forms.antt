-- What files are turned into: a text into the packed sheet and the bytes of its seconds, and these into a text. Assumes
-- nothing.
use Rattle.slices.specs.declared.Refusal.{Refusal}
use Rattle.std.specs.Prelude.{◌≡◌, Bool, true, false, List, ℕ, length, Result}
use Rattle.slices.specs.Refusals.{Fault, unless}
use Rattle.slices.specs.Filling.{filled, Fills}
use Rattle.slices.specs.Halves.{halves_of, half_bytes_of}
use Rattle.blocks.specs.Text.{text_of}
use Rattle.notation.specs.Reading.{Sheet, said, read_fault}
use Rattle.notation.specs.Writing.{write_fault}
use Rattle.conversion.specs.declared.Packed.{Packed}

abbrev pub seconds_bytes : Sheet → List ℕ
seconds_bytes x = half_bytes_of x.seconds

-- What packing tells of a sheet: its level, and how many bytes it and its seconds have.
abbrev pub told_of : Sheet → Packed
told_of x = record { level = x.level; sheet = length x.bytes; seconds = length (seconds_bytes x) }

-- The fault of a text, where there is room for the seconds of 32 letters.
abbrev pub pack_fault : Result Sheet Refusal → ℕ → Fault
pack_fault x room = read_fault x room 32

-- The packed sheet and the bytes of the seconds are filled, level and lengths said; or nothing is changed and the
-- refusal said.
pub record Packs (x : Result Sheet Refusal) (sheet seconds sheet' seconds' : List ℕ) (r : Result Packed Refusal)
    : Type 0 where
  pub says : r ≡ unless (pack_fault x (length sheet)) (told_of (said x))
  pub cells : sheet' ≡ filled (pack_fault x (length sheet)) (said x).bytes sheet
  pub times : seconds' ≡ filled (pack_fault x (length sheet)) (seconds_bytes (said x)) seconds

-- The level of the text that is written: four where seconds are given.
abbrev pub level_of_value : Bool → ℕ
level_of_value true = 4
level_of_value false = 3

-- The text of a packed sheet and of the seconds that some bytes are.
abbrev pub Unpacks : Bool → List ℕ → List ℕ → List ℕ → List ℕ → Result ℕ Refusal → Type 0
Unpacks named b seconds old out r =
    Fills (write_fault (level_of_value named) (halves_of seconds) b (length old))
    (text_of (level_of_value named) (halves_of seconds) b) old out r
