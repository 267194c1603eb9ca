-- Which number of a check's answer stands where.
use mathlib.Core.Path.{◌≡◌, refl}
use mathlib.Core.List.{[], ◌∷◌}
use Rattle.c_sheet.specs.Numbers.{size_numbers}

pub sizes : size_numbers (record { letters = 1; states = 2; widest = 3 }) ≡ 1 ∷ 2 ∷ 3 ∷ []
sizes = refl
