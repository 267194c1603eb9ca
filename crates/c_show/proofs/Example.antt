-- Which length stands where.
use mathlib.Core.Path.{◌≡◌, refl}
use mathlib.Core.List.{[], ◌∷◌}
use Rattle.c_show.specs.Numbers.{lasso_numbers_of}

pub lengths : lasso_numbers_of (record { prefix = 1; period = 2 }) ≡ 1 ∷ 2 ∷ []
lengths = refl
