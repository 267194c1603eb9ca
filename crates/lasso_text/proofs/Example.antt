-- The text of a lasso, byte for byte, and refusals of texts, each at its place. Assumes nothing.
use Rattle.slices.specs.declared.Reason.TheVariants.{EmptyLoop, UnknownLetter, OffLayout}
use mathlib.Core.Path.{◌≡◌, refl}
use mathlib.Core.List.{[], ◌∷◌}
use Prim.Native.String.{String}
use Rattle.slices.specs.declared.Part.TheVariants.{First}
use Rattle.slices.specs.Extremes.{least}
use Rattle.slices.specs.Refusals.{Fault, fault_of}
use Rattle.slices.specs.Scans.{first_outside_of}
use Rattle.slices.specs.Tables.{rows}
use Rattle.slices.specs.Texts.{bytes}
use Rattle.numbers.specs.Digits.{digits_within, digits_of}
use Rattle.numbers.specs.Numerals.{run_of, value_of, number_at_value}
use Rattle.format.specs.Format.{reading, seq, each}
use Rattle.format.specs.Lines.{labelled, repeats, repeated}
use Rattle.lasso_text.specs.Text.{letter_lines, lasso_text_of}
use Rattle.lasso_text.specs.Reading.{words_of, text_fault}

pub opening-7-loop-31-0 : lasso_text_of (7 ∷ []) (31 ∷ 0 ∷ []) ≡ bytes "part scene\nopening 7\nloop 31\nloop 0\n"
unfolding lasso_text_of letter_lines rows digits_of digits_within
opening-7-loop-31-0 = refl

-- What a text is refused for.
abbrev says : String → Fault
says text = text_fault (words_of 32 First (bytes text))

-- no text; the names alone; openings alone; the end within a line; an opening after the loop; a letter that is too large; a carriage return;
-- a byte that begins no line, before any loop line: that it departs from the layout goes before that it has none
pub refusals :
    (says "" ≡ fault_of OffLayout First 0) × (says "part scene\n" ≡ fault_of EmptyLoop First 11) × (says "part scene\nopening 7\n" ≡ fault_of EmptyLoop First 21)
    × (says "part scene\nl" ≡ fault_of OffLayout First 12) × (says "part scene\nloop 0\nopening 7\n" ≡ fault_of OffLayout First 18)
    × (says "part scene\nloop 32" ≡ fault_of UnknownLetter First 16) × (says "part scene\nloop 0\n\r" ≡ fault_of OffLayout First 18)
    × (says "part scene\nx" ≡ fault_of OffLayout First 11) × (says "part scene\nopening 7\nx" ≡ fault_of OffLayout First 21)
unfolding words_of reading seq each labelled repeated repeats least number_at_value run_of value_of first_outside_of
refusals = (refl, refl, refl, refl, refl, refl, refl, refl, refl)
