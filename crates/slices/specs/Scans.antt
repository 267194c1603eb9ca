-- The first of some cells that is out of a range. Assumes nothing.
use Rattle.std.specs.Prelude.{Bool, ◌||◌, List, ℕ, ◌+◌, ltb, leb, get_or}
use Rattle.slices.specs.declared.Part.{Part}
use Rattle.slices.specs.declared.Reason.{Reason}
use Rattle.slices.specs.Refusals.{Fault, when}
use Rattle.slices.specs.Extremes.{least}

-- c is not from `low` to `limit` − 1.
abbrev pub outside : ℕ → ℕ → ℕ → Bool
outside low limit c = ltb c low || leb limit c

-- How many of `count` cells from `at` on come before the first that is outside.
unfoldable pub first_outside_of : ℕ → ℕ → List ℕ → ℕ → ℕ → ℕ
first_outside_of low limit b at count = least count (λ i. outside low limit (get_or b (at + i) 0))

-- The first of them that is outside is refused, at its place.
abbrev pub scan : Reason → Part → ℕ → ℕ → List ℕ → ℕ → ℕ → Fault
scan reason part low limit b at count =
    when (ltb (first_outside_of low limit b at count) count) reason part (at + first_outside_of low limit b at count)
