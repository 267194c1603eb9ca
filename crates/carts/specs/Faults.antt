-- What loading a cart is refused for, for any bytes as sheet and cart. Assumes nothing.
use Rattle.slices.specs.declared.Reason.TheVariants.{EmptyLoop, UnknownLetter, CartCount, CartLength}
use Rattle.slices.specs.declared.Refusal.{Refusal}
use Rattle.std.specs.Prelude.{not, List, ℕ, zero, suc, eqb, length, Result}
use Rattle.slices.specs.declared.Part.TheVariants.{First, Second, Opening, Loop, Out}
use Rattle.slices.specs.Refusals.{Fault, sound, ◌then◌, when, short, unless}
use Rattle.slices.specs.Scans.{outside, scan}
use Rattle.fdfa.specs.Family.{Words}
use Rattle.packed.specs.Layout.{letter_count}
use Rattle.packed.specs.Faults.{sheet_fault}
use Rattle.carts.specs.Reading.{count_of, prefix_length, period_length, prefix_at, period_at, end_at, end_from}
use Rattle.carts.specs.Reading.{shows_of}

-- No byte at all; no show or more than 64; the last show does not end where the cart does. Past the cart's end bytes
-- count as 0, so a show whose header or scenes are cut ends past it, and so do all behind it.
unfoldable pub layout_fault : List ℕ → Fault
layout_fault b =
    when (eqb (length b) 0) CartLength Second 0
    then when (outside 1 65 (count_of b)) CartCount Second 0
    then when (not (eqb (end_from b 1 (count_of b)) (length b))) CartLength Second (length b)

-- The shows of a cart, or the refusal of its layout.
abbrev pub cart_in : List ℕ → Result (List Words) Refusal
cart_in b = unless (layout_fault b) (shows_of b)

-- What the show that begins at a place is refused for by itself, over s letters: a letter of its prefix, no period, a
-- letter of its period, at places of the cart.
unfoldable pub show_fault : ℕ → List ℕ → ℕ → Fault
show_fault s b at =
    scan UnknownLetter Opening 0 s b (prefix_at at) (prefix_length b at)
    then when (eqb (period_length b at) 0) EmptyLoop Loop (period_at b at)
    then scan UnknownLetter Loop 0 s b (period_at b at) (period_length b at)

-- So many shows from a place on, one after the other.
unfoldable pub shows_fault : ℕ → List ℕ → ℕ → ℕ → Fault
shows_fault s b at zero = sound
shows_fault s b at (suc c) = show_fault s b at then shows_fault s b (end_at b at) c

-- The layout, then the shows.
unfoldable pub cart_fault : ℕ → List ℕ → Fault
cart_fault s b = layout_fault b then shows_fault s b 1 (count_of b)

-- The sheet, the cart, then the out slice, whose length is `room`.
abbrev pub load_fault : List ℕ → List ℕ → ℕ → Fault
load_fault sheet b room =
    sheet_fault First sheet then cart_fault (letter_count sheet) b then short Out room (length b)
