-- Refusals of level four at their places, and their order. Assumes nothing.
use Rattle.slices.specs.declared.Reason.TheVariants.{UnknownLevel, OffLayout, OutOfTurn, SecondsRange, TooLittleRoom}
use mathlib.Core.Path.{◌≡◌, refl}
use mathlib.Core.List.{[], ◌∷◌}
use Prim.Native.String.{String}
use Rattle.slices.specs.declared.Part.TheVariants.{First, Out, Seconds}
use Rattle.slices.specs.Refusals.{Fault, sound, fault_of, fault_in}
use Rattle.slices.specs.Extremes.{least}
use Rattle.slices.specs.Scans.{first_outside_of}
use Rattle.slices.specs.Seconds.{seconds_fault}
use Rattle.slices.specs.Tables.{tab, rows, sum}
use Rattle.slices.specs.Texts.{bytes}
use Rattle.packed.specs.Layout.{progress_at_value}
use Rattle.packed.specs.Faults.{progress_fault, header_fault, tables_fault, sheet_fault}
use Rattle.numbers.specs.Digits.{digits_within, digits_of}
use Rattle.numbers.specs.Numerals.{run_of, value_of, number_at_value}
use Rattle.format.specs.Format.{reading, printed, seq, each}
use Rattle.format.specs.Rows.{row}
use Rattle.blocks.specs.Text.{seconds_title, timed, seconds_format, parts_format, seconds_of, leading_of, parts_of, text_of}
use Rattle.blocks.specs.Numbers.{blocks_from, blocks_of}
use Rattle.notation.specs.Reading.{numbers_of, sheet_in, room_fault}
use Rattle.notation.specs.Writing.{write_fault}
use Rattle.notation.proofs.SheetB.{B}

-- What a text is refused for.
abbrev says : String → Fault
says text = fault_in (sheet_in (bytes text))

-- level 5; scene 1 in the place of scene 0; seconds 0; seconds 1000; level three with seconds; level four without
pub texts :
    (says "level scenes places\n5" ≡ fault_of UnknownLevel First 20) × (says "level scenes places\n4 1 1\nscene seconds\n1 " ≡ fault_of OutOfTurn First 40)
    × (says "level scenes places\n4 1 1\nscene seconds\n0 0" ≡ fault_of SecondsRange First 42)
    × (says "level scenes places\n4 1 1\nscene seconds\n0 1000" ≡ fault_of OffLayout First 42)
    × (says "level scenes places\n3 1 1\nscene seconds\n" ≡ fault_of OffLayout First 26) × (says "level scenes places\n4 1 1\np" ≡ fault_of OffLayout First 26)
unfolding sheet_in numbers_of blocks_of blocks_from reading seq each row seconds_format seconds_title timed number_at_value run_of value_of first_outside_of least
texts = (refl, refl, refl, refl, refl, refl)

-- the out slice is judged before the seconds slice
pub rooms :
    (room_fault (record { level = 4; bytes = B; seconds = 1 ∷ 999 ∷ [] }) 10 0 ≡ fault_of TooLittleRoom Out 11)
    × (room_fault (record { level = 4; bytes = B; seconds = 1 ∷ 999 ∷ [] }) 11 1 ≡ fault_of TooLittleRoom Seconds 2) × (room_fault (record { level = 4; bytes = B; seconds = 1 ∷ 999 ∷ [] }) 11 2 ≡ sound)
rooms = (refl, refl, refl)

-- the level before the sheet; too few cells before a bad one; a bad cell before the room; a cell past those of the letters is not judged
pub writes :
    (write_fault 5 [] [] 0 ≡ fault_of UnknownLevel First 0) × (write_fault 4 (0 ∷ []) B 0 ≡ fault_of TooLittleRoom Seconds 2) × (write_fault 4 (1 ∷ 1000 ∷ []) B 0 ≡ fault_of SecondsRange Seconds 1)
    × (write_fault 4 (1 ∷ 999 ∷ 0 ∷ []) B 0 ≡ fault_of TooLittleRoom Out 118) × (write_fault 4 (1 ∷ 999 ∷ 0 ∷ []) B 118 ≡ sound)
unfolding write_fault seconds_fault seconds_title timed seconds_format parts_format seconds_of leading_of parts_of text_of printed seq each row digits_of digits_within rows tab progress_at_value sum least first_outside_of progress_fault header_fault tables_fault sheet_fault
writes = (refl, refl, refl, refl, refl)
