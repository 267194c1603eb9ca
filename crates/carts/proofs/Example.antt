-- A cart byte for byte, the shows that are read of it, and refusals, each at its place and in their order. Assumes nothing.
use Rattle.slices.specs.declared.Reason.TheVariants.{EmptyLoop, UnknownLetter, CartCount, CartLength}
use mathlib.Core.Path.{◌≡◌, refl}
use mathlib.Core.List.{List, [], ◌∷◌, ◌++◌}
use Prim.Native.Nat.{ℕ}
use lib.ListN.{length, take}
use Rattle.slices.specs.declared.Part.TheVariants.{Second, Opening, Loop}
use Rattle.slices.specs.Extremes.{least}
use Rattle.slices.specs.Halves.{half_bytes_of}
use Rattle.slices.specs.Refusals.{Fault, sound, fault_of}
use Rattle.slices.specs.Scans.{first_outside_of}
use Rattle.slices.specs.Tables.{rows}
use Rattle.fdfa.specs.Family.{Words}
use Rattle.carts.specs.Layout.{each_show, cart_bytes}
use Rattle.carts.specs.Reading.{period_at, shows_from, end_from, shows_of}
use Rattle.carts.specs.Faults.{layout_fault, show_fault, shows_fault, cart_fault}

-- no opening and the loop 0; the opening 0 1 and the loop 1 1 0
abbrev pub shows : List Words
shows = record { prefix = []; period = 0 ∷ [] } ∷ record { prefix = 0 ∷ 1 ∷ []; period = 1 ∷ 1 ∷ 0 ∷ [] } ∷ []

abbrev pub cart : List ℕ
cart = 2 ∷ 0 ∷ 0 ∷ 1 ∷ 0 ∷ 0 ∷ 2 ∷ 0 ∷ 3 ∷ 0 ∷ 0 ∷ 1 ∷ 1 ∷ 1 ∷ 0 ∷ []

pub two-shows : (cart_bytes shows ≡ cart) × (shows_of cart ≡ shows)
unfolding each_show half_bytes_of rows shows_from
two-shows = (refl, refl)

abbrev Refused : (List ℕ → Fault) → List (List ℕ) → (ℕ → Fault) → Type 0
Refused f [] g = Unit {0}
Refused f (b ∷ bs) g = (f b ≡ g (length b)) × Refused f bs g

-- lengths of 258 and 515 letters: where the loop begins, and where the show ends
pub long-parts : (period_at (1 ∷ 2 ∷ 1 ∷ 3 ∷ 2 ∷ []) 1 ≡ 263) × (end_from (1 ∷ 2 ∷ 1 ∷ 3 ∷ 2 ∷ []) 1 1 ≡ 778)
unfolding end_from
long-parts = (refl, refl)

-- the layout: no byte; no show, 65 shows, whatever follows; a cart cut before every byte but the first, a byte left over
pub layouts :
    (layout_fault [] ≡ fault_of CartLength Second 0)
    × Refused layout_fault ((0 ∷ []) ∷ (65 ∷ []) ∷ (255 ∷ 0 ∷ 0 ∷ []) ∷ []) (λ n. fault_of CartCount Second 0)
    × Refused layout_fault
    ((64 ∷ []) ∷ take 1 cart ∷ take 2 cart ∷ take 3 cart ∷ take 4 cart ∷ take 5 cart ∷ take 6 cart ∷ take 7 cart ∷ take 8 cart ∷ take 9 cart ∷ take 10 cart ∷ take 11 cart ∷ take 12 cart ∷ take 13 cart ∷ take 14 cart ∷ (cart ++ (0 ∷ [])) ∷ [])
    (λ n. fault_of CartLength Second n)
    × (layout_fault cart ≡ sound)
unfolding layout_fault end_from
layouts = (refl, (refl, (refl, (refl, tt))), (refl, (refl, (refl, (refl, (refl, (refl, (refl, (refl, (refl, (refl, (refl, (refl, (refl, (refl, (refl, (refl, tt)))))))))))))))), refl)

-- over two letters: the cart; an unknown letter of the second opening at byte 10 and of the loop at byte 13; an empty loop at byte 5, before
-- the unknown letter of the next show; an empty loop where the cart ends; a byte left over, before an unknown letter and an empty loop
pub letters :
    (cart_fault 2 cart ≡ sound)
    × (cart_fault 2 (2 ∷ 0 ∷ 0 ∷ 1 ∷ 0 ∷ 0 ∷ 2 ∷ 0 ∷ 3 ∷ 0 ∷ 2 ∷ 1 ∷ 1 ∷ 3 ∷ 0 ∷ []) ≡ fault_of UnknownLetter Opening 10)
    × (cart_fault 2 (2 ∷ 0 ∷ 0 ∷ 1 ∷ 0 ∷ 0 ∷ 2 ∷ 0 ∷ 3 ∷ 0 ∷ 0 ∷ 1 ∷ 1 ∷ 3 ∷ 0 ∷ []) ≡ fault_of UnknownLetter Loop 13)
    × (cart_fault 2 (2 ∷ 0 ∷ 0 ∷ 0 ∷ 0 ∷ 1 ∷ 0 ∷ 1 ∷ 0 ∷ 7 ∷ 0 ∷ []) ≡ fault_of EmptyLoop Loop 5)
    × (cart_fault 2 (1 ∷ 1 ∷ 0 ∷ 0 ∷ 0 ∷ 1 ∷ []) ≡ fault_of EmptyLoop Loop 6)
    × (cart_fault 2 (1 ∷ 1 ∷ 0 ∷ 0 ∷ 0 ∷ 7 ∷ 7 ∷ []) ≡ fault_of CartLength Second 7)
unfolding cart_fault layout_fault end_from shows_fault show_fault first_outside_of least
letters = (refl, refl, refl, refl, refl, refl)
