-- Line and column of a place, byte by byte. Assumes nothing.
use mathlib.Core.Path.{◌≡◌, refl, ap, sym, ◌∙◌}
use mathlib.Core.Bool.{Bool, cond}
use mathlib.Core.List.{List}
use Prim.Native.Nat.{ℕ, ◌+◌}
use native.Mathlib.Numerals.{add-one}
use lib.Dec.{eqb}
use lib.ListN.{get_or}
use borrow.Author.Tests.{eq-eqb, ne_eqb}
use Rattle.wording.specs.declared.Position.{Position}
use Rattle.wording.specs.Words.{position_at}

pub position-none : (t : List ℕ) → ◌≡◌ {A = Position} (record { line = 1; column = 1 }) (position_at t 0)
unfolding position_at
position-none t = refl

module _ (t : List ℕ) (i : ℕ) {l c : ℕ} (h : ◌≡◌ {A = Position} (record { line = l; column = c }) (position_at t i)) where
  next : (b : Bool) → eqb (get_or t i 0) 10 ≡ b → ◌≡◌ {A = Position} (cond b (record { line = l + 1; column = 1 }) (record { line = l; column = c + 1 })) (position_at t (i + 1))
  unfolding position_at
  next b e =
      (λ k. cond (sym e k) (record { line = (h k).line + 1; column = 1 }) (record { line = (h k).line; column = (h k).column + 1 }))
      ∙ ap (position_at t) (sym (add-one i))

  pub position-feed : get_or t i 0 ≡ 10 → ◌≡◌ {A = Position} (record { line = l + 1; column = 1 }) (position_at t (i + 1))
  position-feed e = next _ (eq-eqb (get_or t i 0) 10 e)

  pub position-other : (get_or t i 0 ≡ 10 → ⊥) → ◌≡◌ {A = Position} (record { line = l; column = c + 1 }) (position_at t (i + 1))
  position-other e = next _ (ne_eqb (get_or t i 0) 10 e)
