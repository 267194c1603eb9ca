-- Which number of a search's answer stands where.
use mathlib.Core.Path.{◌≡◌, refl}
use mathlib.Core.List.{[], ◌∷◌}
use Rattle.inclusion.specs.declared.Comparison.{Comparison}
use Rattle.inclusion.specs.declared.Outcome.TheVariants.{Absent, Found}
use Rattle.c_search.specs.Searches.{search_numbers_of}

abbrev numbers : Comparison
numbers = record { reached = 2; prefix = 3; period = 4; first = record { waits = 5; ends = 6 }; second = record { waits = 7; ends = 8 } }

pub found : search_numbers_of (Found numbers) ≡ 1 ∷ 2 ∷ 3 ∷ 4 ∷ 5 ∷ 6 ∷ 7 ∷ 8 ∷ []
found = refl

pub absent : search_numbers_of (Absent numbers) ≡ 0 ∷ 2 ∷ 3 ∷ 4 ∷ 5 ∷ 6 ∷ 7 ∷ 8 ∷ []
absent = refl
