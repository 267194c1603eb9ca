-- Reading a text from left to right, for any bytes: what is refused first is refused at the smallest place. Assumes
-- nothing.
use Rattle.slices.specs.declared.Reason.TheVariants.{OffLayout, TooLittleRoom}
use Rattle.slices.specs.declared.Refusal.{Refusal}
use Rattle.std.specs.Prelude.{◌≡◌, cond, List, [], ℕ, eqb, ltb, length, Result, Ok, Err}
use Rattle.slices.specs.declared.Part.TheVariants.{First, Out, Seconds}
use Rattle.slices.specs.Refusals.{Fault, ◌then◌, when, unless, mapped, fault_in}
use Rattle.slices.specs.Filling.{filled}
use Rattle.packed.specs.Layout.{pack}
use Rattle.format.specs.Format.{Found, refused_at, reading}
use Rattle.blocks.specs.Text.{level_in, parts_format}
use Rattle.blocks.specs.Numbers.{Blocks, blocks_of, family_of, times_of}
use Rattle.notation.specs.declared.Levelled.{Levelled}

-- The numbers of a text: the front, the timings, those of the progress automata.
pub record Numbers : Type 0 where
  pub front : List ℕ
  pub timings : List ℕ
  pub parts : List ℕ

-- Nothing follows the last line feed.
abbrev pub ended : List ℕ → Blocks → Result Found Refusal → Result Numbers Refusal
ended t b (Err r) = Err r
ended t b (Ok f) =
    cond (eqb f.next (length t)) (Ok (record { front = b.front; timings = b.timings; parts = f.values }))
    (refused_at OffLayout First f.next)

abbrev pub onward : List ℕ → Result Blocks Refusal → Result Numbers Refusal
onward t (Err r) = Err r
onward t (Ok b) = ended t b (reading First t (parts_format b.front) b.next)

-- The whole text.
unfoldable pub numbers_of : List ℕ → Result Numbers Refusal
numbers_of t = onward t (blocks_of t)

-- What a text says: its level, the packed sheet, and the seconds of the letters, of which level three says none.
pub record Sheet : Type 0 where
  pub level : ℕ
  pub bytes : List ℕ
  pub seconds : List ℕ

abbrev pub sheet_of : Numbers → Sheet
sheet_of v = record {
  level = level_in v.front;
  bytes = pack (family_of v.front v.parts);
  seconds = times_of v.front v.timings;
}

unfoldable pub sheet_in : List ℕ → Result Sheet Refusal
sheet_in t = mapped sheet_of (numbers_of t)

abbrev pub said : Result Sheet Refusal → Sheet
said (Ok x) = x
said (Err r) = record { level = 0; bytes = []; seconds = [] }

-- Too little room: in the out slice, then in the seconds slice.
abbrev pub room_fault : Sheet → ℕ → ℕ → Fault
room_fault x room cells =
    when (ltb room (length x.bytes)) TooLittleRoom Out (length x.bytes)
    then when (ltb cells (length x.seconds)) TooLittleRoom Seconds (length x.seconds)

-- The text's fault, and only then the room.
abbrev pub read_fault : Result Sheet Refusal → ℕ → ℕ → Fault
read_fault x room cells = fault_in x then room_fault (said x) room cells

-- What the call tells of a sheet: its level, and the length filled.
abbrev pub told_of : Sheet → Levelled
told_of x = record { level = x.level; filled = length x.bytes }

-- The sheet and the seconds are filled, level and length said; or nothing is changed and the refusal said.
pub record SheetRead (x : Result Sheet Refusal) (out seconds out' seconds' : List ℕ) (r : Result Levelled Refusal)
    : Type 0 where
  pub says : r ≡ unless (read_fault x (length out) (length seconds)) (told_of (said x))
  pub sheet : out' ≡ filled (read_fault x (length out) (length seconds)) (said x).bytes out
  pub times : seconds' ≡ filled (read_fault x (length out) (length seconds)) (said x).seconds seconds
