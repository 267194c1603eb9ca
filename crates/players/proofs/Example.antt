-- Which number of a verdict's answer stands where.
use mathlib.Core.Path.{◌≡◌, refl}
use mathlib.Core.Bool.{true, false}
use mathlib.Core.List.{[], ◌∷◌}
use Rattle.players.specs.Calls.{verdict_numbers_of}

pub accepted : verdict_numbers_of (record { accepted = true; i = 2; j = 3; state = 4; end = 5 }) ≡ 1 ∷ 2 ∷ 3 ∷ 4 ∷ 5 ∷ []
accepted = refl

pub rejected : verdict_numbers_of (record { accepted = false; i = 2; j = 3; state = 4; end = 5 }) ≡ 0 ∷ 2 ∷ 3 ∷ 4 ∷ 5 ∷ []
rejected = refl
