-- Numbers read at a place, and refused at theirs: past the text's end at its length.
use Rattle.std.specs.Prelude.{Ok}
use mathlib.Core.Path.{◌≡◌, refl}
use Rattle.slices.specs.declared.Part.TheVariants.{First, Second}
use Rattle.slices.specs.Extremes.{least}
use Rattle.slices.specs.Scans.{first_outside_of}
use Rattle.slices.specs.Texts.{bytes}
use Rattle.numbers.specs.Numerals.{run_of, value_of, misread, number_at_value}

pub read : (number_at_value First (bytes "12 345") 3 ≡ Ok (record { value = 345; next = 6 })) × (number_at_value First (bytes "0") 0 ≡ Ok (record { value = 0; next = 1 })) × (number_at_value First (bytes "7x") 0 ≡ Ok (record { value = 7; next = 1 }))
unfolding number_at_value run_of value_of first_outside_of least
read = (refl, refl, refl)

pub refused :
    (number_at_value Second (bytes "12") 2 ≡ misread Second 2) × (number_at_value First (bytes "12") 9 ≡ misread First 2)
    × (number_at_value First (bytes "a x") 2 ≡ misread First 2) × (number_at_value First (bytes "a 03") 2 ≡ misread First 2)
    × (number_at_value First (bytes "a 1234") 2 ≡ misread First 2)
unfolding number_at_value run_of value_of first_outside_of least
refused = (refl, refl, refl, refl, refl)
