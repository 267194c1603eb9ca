-- What the durations program is refused for, in its order.
use Rattle.slices.specs.declared.Reason.TheVariants.{UnknownLetter, OffLayout}
use mathlib.Core.Path.{◌≡◌, refl}
use Prim.Native.String.{String}
use Rattle.slices.specs.declared.Part.TheVariants.{First, Second, Loop}
use Rattle.slices.specs.Extremes.{least}
use Rattle.slices.specs.Refusals.{Fault, fault_of, fault_in}
use Rattle.slices.specs.Scans.{first_outside_of}
use Rattle.slices.specs.LassoLetters.{period_fault, letters_fault}
use Rattle.slices.specs.Tables.{tab, rows}
use Rattle.slices.specs.Texts.{bytes}
use Rattle.numbers.specs.Digits.{digits_within, digits_of}
use Rattle.numbers.specs.Numerals.{run_of, value_of, number_at_value}
use Rattle.format.specs.Format.{reading, seq, each}
use Rattle.format.specs.Rows.{row}
use Rattle.format.specs.Lines.{labelled, repeats, repeated}
use Rattle.blocks.specs.Text.{seconds_title, timed, seconds_format, parts_format}
use Rattle.blocks.specs.Numbers.{blocks_from, blocks_of}
use Rattle.notation.specs.Reading.{numbers_of, sheet_in}
use Rattle.lasso_text.specs.Reading.{words_of}
use Rattle.running_sheet.specs.Writing.{input_fault}
use Rattle.durations_files.specs.Decided.{running, decided}

abbrev says : String → String → Fault
says sheet show = fault_in (decided (bytes sheet) (bytes show))

-- the sheet's text before the show's; the show's; a scene that has no seconds, at level four and at level three
pub refusals :
    (says "" "" ≡ fault_of OffLayout First 0)
    × (says "level scenes places\n4 1 1\nscene seconds\n0 7\nplace loops s0\n0 1 0\nplace loop mark s0\n0 0 1 0\n" "" ≡ fault_of OffLayout Second 0)
    × (says "level scenes places\n4 1 1\nscene seconds\n0 7\nplace loops s0\n0 1 0\nplace loop mark s0\n0 0 1 0\n" "part scene\nloop 0\nloop 1\n" ≡ fault_of UnknownLetter Loop 1)
    × (says "level scenes places\n3 1 1\nplace loops s0\n0 1 0\nplace loop mark s0\n0 0 1 0\n" "part scene\nloop 0\nloop 1\n" ≡ fault_of UnknownLetter Loop 0)
unfolding decided running sheet_in numbers_of blocks_of blocks_from reading seq each row seconds_format seconds_title timed parts_format number_at_value run_of value_of first_outside_of least digits_of digits_within rows tab words_of labelled repeated repeats input_fault letters_fault period_fault
refusals = (refl, refl, refl, refl)
