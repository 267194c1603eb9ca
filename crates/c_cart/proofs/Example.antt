-- What the call tells of sheet B of 01, which accepts every loop with scene 0, and of carts of its shows. Assumes nothing.
use mathlib.Core.Path.{◌≡◌, refl}
use mathlib.Core.List.{List, [], ◌∷◌}
use Prim.Native.Nat.{ℕ}
use Rattle.slices.specs.Extremes.{least}
use Rattle.slices.specs.Filling.{written}
use Rattle.slices.specs.Scans.{first_outside_of}
use Rattle.slices.specs.Tables.{sum}
use Rattle.fdfa.specs.Normalization.{return_from, returning}
use Rattle.packed.specs.Layout.{progress_at_value}
use Rattle.packed.specs.Faults.{progress_fault, header_fault, tables_fault, sheet_fault}
use Rattle.answers.specs.Layout.{numbers_of}
use Rattle.carts.specs.Reading.{shows_from, end_from}
use Rattle.carts.specs.Faults.{layout_fault, show_fault, shows_fault, cart_fault}
use Rattle.carts.specs.Loads.{first_rejected_of, load_of, out_after}
use Rattle.c_cart.specs.Numbers.{load_numbers_of}

abbrev b : List ℕ
b = 2 ∷ 1 ∷ 2 ∷ 0 ∷ 0 ∷ 1 ∷ 0 ∷ 1 ∷ 1 ∷ 0 ∷ 1 ∷ []

-- the loop 0; the loop 1; the loop 0, the opening 0 with the loop 1, the loop 1
abbrev accepted : List ℕ
accepted = 1 ∷ 0 ∷ 0 ∷ 1 ∷ 0 ∷ 0 ∷ []

abbrev rejected : List ℕ
rejected = 1 ∷ 0 ∷ 0 ∷ 1 ∷ 0 ∷ 1 ∷ []

abbrev three : List ℕ
three = 3 ∷ 0 ∷ 0 ∷ 1 ∷ 0 ∷ 0 ∷ 1 ∷ 0 ∷ 1 ∷ 0 ∷ 0 ∷ 1 ∷ 0 ∷ 0 ∷ 1 ∷ 0 ∷ 1 ∷ []

abbrev tells : List ℕ → List ℕ → ℕ → List ℕ
tells sheet cart room = numbers_of load_numbers_of (load_of sheet cart room)

-- loaded, 6 bytes; rejected for show 0; for show 1; 21 of out before the verdicts, 17 cells needed; 9 of the loop before 21; the sheet before
-- the cart
pub told :
    (tells b accepted 6 ≡ 0 ∷ 1 ∷ 6 ∷ [])
    × (tells b rejected 6 ≡ 0 ∷ 0 ∷ 0 ∷ [])
    × (tells b three 17 ≡ 0 ∷ 0 ∷ 1 ∷ [])
    × (tells b three 16 ≡ 21 ∷ 4 ∷ 17 ∷ [])
    × (tells b (1 ∷ 0 ∷ 0 ∷ 1 ∷ 0 ∷ 7 ∷ []) 0 ≡ 9 ∷ 3 ∷ 5 ∷ [])
    × (tells (2 ∷ []) [] 0 ≡ 1 ∷ 0 ∷ 1 ∷ [])
unfolding sheet_fault header_fault tables_fault progress_fault progress_at_value sum first_outside_of least cart_fault layout_fault end_from shows_fault show_fault shows_from first_rejected_of returning return_from
told = (refl, refl, refl, refl, refl, refl)

-- the out slice of 8 cells 9: the cart and what was behind it; as it was
pub left :
    (out_after (load_of b accepted 8) accepted (9 ∷ 9 ∷ 9 ∷ 9 ∷ 9 ∷ 9 ∷ 9 ∷ 9 ∷ []) ≡ 1 ∷ 0 ∷ 0 ∷ 1 ∷ 0 ∷ 0 ∷ 9 ∷ 9 ∷ [])
    × (out_after (load_of b rejected 8) rejected (9 ∷ 9 ∷ 9 ∷ 9 ∷ 9 ∷ 9 ∷ 9 ∷ 9 ∷ []) ≡ 9 ∷ 9 ∷ 9 ∷ 9 ∷ 9 ∷ 9 ∷ 9 ∷ 9 ∷ [])
unfolding sheet_fault header_fault tables_fault progress_fault progress_at_value sum first_outside_of least cart_fault layout_fault end_from shows_fault show_fault shows_from first_rejected_of returning return_from written
left = (refl, refl)
