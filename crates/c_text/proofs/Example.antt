-- Which number stands where: of a number its value, of a sheet's text its level.
use mathlib.Core.Path.{◌≡◌, refl}
use mathlib.Core.List.{[], ◌∷◌}
use Rattle.c_text.specs.Numbers.{read_numbers, sheet_numbers_of}

pub numbers : (read_numbers (record { value = 1; next = 2 }) ≡ 1 ∷ 2 ∷ []) × (sheet_numbers_of (record { level = 3; filled = 11 }) ≡ 3 ∷ 11 ∷ [])
numbers = (refl, refl)
