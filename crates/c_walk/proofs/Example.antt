-- Which number stands where: of a step the letter, then part and position; of a pass the state, then the position.
use mathlib.Core.Path.{◌≡◌, refl}
use mathlib.Core.List.{[], ◌∷◌}
use Rattle.fdfa.specs.Pass.{reached}
use Rattle.cursor.specs.declared.Phase.TheVariants.{Prefix, Period}
use Rattle.c_walk.specs.Cursors.{cursor_numbers_of, moved_numbers}
use Rattle.c_walk.specs.Passes.{pass_numbers}

pub moves :
    (moved_numbers (record { letter = 9; next = record { phase = Prefix; at = 5 } }) ≡ 9 ∷ 2 ∷ 5 ∷ [])
    × (moved_numbers (record { letter = 9; next = record { phase = Period; at = 5 } }) ≡ 9 ∷ 3 ∷ 5 ∷ [])
    × (cursor_numbers_of (record { phase = Prefix; at = 5 }) ≡ 2 ∷ 5 ∷ [])
moves = (refl, refl, refl)

pub passes : pass_numbers (reached 4 7) ≡ 0 ∷ 4 ∷ 7 ∷ []
passes = refl
