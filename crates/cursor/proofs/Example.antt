-- What a step is refused for, with the cursor as it was, and the rest.
use Rattle.slices.specs.declared.Reason.TheVariants.{EmptyLoop, CursorPastEnd}
use Rattle.std.specs.Prelude.{Err}
use mathlib.Core.Path.{◌≡◌, refl}
use mathlib.Core.List.{[], ◌∷◌}
use Prim.Native.Nat.{ℕ}
use Rattle.slices.specs.declared.Part.TheVariants as part
use Rattle.cursor.specs.declared.Phase.TheVariants.{Prefix, Period}
use Rattle.cursor.specs.declared.Cursor.{Cursor}
use Rattle.cursor.specs.Walking.{stepped, rest_of}

abbrev opening : ℕ → Cursor
opening at = record { phase = Prefix; at = at }

abbrev loop : ℕ → Cursor
loop at = record { phase = Period; at = at }

-- an empty loop comes before a position past the end; that of the opening, of an empty opening too, and of the loop
pub refusals :
    (stepped (opening 7) (5 ∷ []) [] ≡ record { letter = Err (record { reason = EmptyLoop; part = part.Loop; place = 0 }); cursor = opening 7 })
    × (stepped (opening 1) (5 ∷ []) (7 ∷ 8 ∷ []) ≡ record { letter = Err (record { reason = CursorPastEnd; part = part.Cursor; place = 1 }); cursor = opening 1 })
    × (stepped (opening 0) [] (7 ∷ 8 ∷ []) ≡ record { letter = Err (record { reason = CursorPastEnd; part = part.Cursor; place = 0 }); cursor = opening 0 })
    × (stepped (loop 2) (5 ∷ []) (7 ∷ 8 ∷ []) ≡ record { letter = Err (record { reason = CursorPastEnd; part = part.Cursor; place = 2 }); cursor = loop 2 })
refusals = (refl, refl, refl, refl)

-- the rest of the opening and of the loop; none where a step is refused
pub rests :
    (rest_of (opening 1) (5 ∷ 6 ∷ 4 ∷ []) (7 ∷ 8 ∷ []) ≡ 6 ∷ 4 ∷ []) × (rest_of (loop 1) (5 ∷ []) (7 ∷ 8 ∷ []) ≡ 8 ∷ [])
    × (rest_of (opening 0) (5 ∷ []) [] ≡ []) × (rest_of (loop 2) (5 ∷ []) (7 ∷ 8 ∷ []) ≡ [])
rests = (refl, refl, refl, refl)
