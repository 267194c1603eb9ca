-- The layout of a cart: which refusal it gets, from what the code knows where it meets it, and what holds of one that gets none. Assumes nothing.
use Rattle.slices.specs.declared.Reason.TheVariants.{CartCount, CartLength}
use mathlib.Core.Path.{◌≡◌, ap, sym, ◌∙◌}
use mathlib.Core.Bool.{true, false, not}
use mathlib.Core.List.{List}
use Prim.Native.Nat.{ℕ, ◌≤◌}
use native.Mathlib.Omega.{arith}
use lib.Dec.{eqb}
use lib.ListN.{length}
use borrow.Author.Tests.{eq-eqb, ne_eqb, eqb-true, eqb-false, not-false}
use Rattle.slices.specs.declared.Part.TheVariants.{Second}
use Rattle.slices.specs.Refusals.{Fault, sound, fault_of, ◌then◌, when}
use Rattle.slices.specs.Scans.{outside}
use Rattle.slices.proofs.Refusals.{then-left, then-right, when-sound}
use Rattle.slices.proofs.Scans.{inside, not-outside}
use Rattle.carts.specs.Reading.{count_of, end_from}
use Rattle.carts.specs.Faults.{layout_fault}

module _ (b : List ℕ) where
  pub no_byte : length b ≡ 0 → layout_fault b ≡ fault_of CartLength Second 0
  unfolding layout_fault
  no_byte e = rw (eq-eqb _ 0 e)

  module _ (some : length b ≡ 0 → ⊥) {count : ℕ} (is : count ≡ count_of b) where
    pub bad-count : outside 1 65 count ≡ true → layout_fault b ≡ fault_of CartCount Second 0
    unfolding layout_fault
    bad-count o = rw (ne_eqb _ 0 some, ap (outside 1 65) (sym is) ∙ o)

    module _ (few : outside 1 65 count ≡ false) where
      pub bad-length : eqb (end_from b 1 count) (length b) ≡ false → layout_fault b ≡ fault_of CartLength Second (length b)
      unfolding layout_fault
      bad-length e = rw (ne_eqb _ 0 some, ap (outside 1 65) (sym is) ∙ few, ap (λ (n : ℕ). eqb (end_from b 1 n) (length b)) (sym is) ∙ e)

      pub good-layout : eqb (end_from b 1 count) (length b) ≡ true → layout_fault b ≡ sound
      unfolding layout_fault
      good-layout e = rw (ne_eqb _ 0 some, ap (outside 1 65) (sym is) ∙ few, ap (λ (n : ℕ). eqb (end_from b 1 n) (length b)) (sym is) ∙ e)

  -- a good layout: 1 to 64 shows, which end where the cart does
  module _ (e : layout_fault b ≡ sound) where
    abbrev byte : Fault
    byte = when (eqb (length b) 0) CartLength Second 0

    abbrev few : Fault
    few = when (outside 1 65 (count_of b)) CartCount Second 0

    abbrev exact : Fault
    exact = when (not (eqb (end_from b 1 (count_of b)) (length b))) CartLength Second (length b)

    later : few then exact ≡ sound
    unfolding layout_fault
    later = then-right byte (few then exact) e

    pub layout-byte : length b ≡ 0 → ⊥
    unfolding layout_fault
    layout-byte = eqb-false (length b) 0 (when-sound _ CartLength Second 0 (then-left byte (few then exact) e))

    pub layout-count : (1 ≤ count_of b) × (count_of b ≤ 64)
    layout-count = let i = inside 1 65 (count_of b) (when-sound _ CartCount Second 0 (then-left few exact later)) in (i.0, omega (arith, i.1))

    pub layout-exact : end_from b 1 (count_of b) ≡ length b
    layout-exact = eqb-true _ (length b) (not-false _ (when-sound _ CartLength Second (length b) (then-right few exact later)))

  pub layout-sound : (length b ≡ 0 → ⊥) → 1 ≤ count_of b → count_of b ≤ 64 → end_from b 1 (count_of b) ≡ length b → layout_fault b ≡ sound
  unfolding layout_fault
  layout-sound some low high end = rw (ne_eqb _ 0 some, not-outside 1 65 (count_of b) low (omega arith), eq-eqb _ (length b) end)
