-- The numbers of the parts, as the header has them, and a refusal as numbers.
use Rattle.slices.specs.declared.Reason.TheVariants.{TooLittleRoom}
use Rattle.std.specs.Prelude.{Ok, Err}
use mathlib.Core.Path.{◌≡◌, refl}
use mathlib.Core.List.{[], ◌∷◌}
use Prim.Native.Nat.{ℕ}
use Rattle.slices.specs.declared.Part.TheVariants.{First, Second, Opening, Loop, Out, Work, Cursor, Seconds}
use Rattle.answers.specs.Layout.{part_number_of, numbers_of}

pub parts :
    (part_number_of First ≡ 0) × (part_number_of Second ≡ 1) × (part_number_of Opening ≡ 2) × (part_number_of Loop ≡ 3)
    × (part_number_of Out ≡ 4) × (part_number_of Work ≡ 5) × (part_number_of Cursor ≡ 6) × (part_number_of Seconds ≡ 7)
parts = (refl, refl, refl, refl, refl, refl, refl, refl)

pub refusal : numbers_of {A = ℕ} (λ n. n ∷ []) (Err (record { reason = TooLittleRoom; part = Out; place = 8 })) ≡ 21 ∷ 4 ∷ 8 ∷ []
refusal = refl

pub answer : numbers_of {A = ℕ} (λ n. n ∷ []) (Ok 8) ≡ 0 ∷ 8 ∷ []
answer = refl
