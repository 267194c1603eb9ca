-- The cursor by numbers: which cursor two numbers name, and what the rest is by whether letters are left. Assumes nothing.
use Rattle.slices.specs.declared.Reason.TheVariants.{EmptyLoop, CursorPastEnd}
use mathlib.Core.Path.{◌≡◌, refl, ap, sym}
use mathlib.Core.Bool.{Bool, true, false, cond}
use mathlib.Core.List.{List, [], ◌∷◌}
use Prim.Native.Nat.{ℕ}
use native.Mathlib.Omega.{arith}
use lib.Dec.{eqb, leb}
use lib.ListN.{length, drop, length-drop}
use borrow.Author.Tests.{eq-eqb, ne_eqb, leb-false}
use Rattle.slices.specs.declared.Part.TheVariants as part
use Rattle.slices.specs.Refusals.{Fault, ◌then◌, when}
use Rattle.cursor.specs.declared.Phase.TheVariants.{Prefix, Period}
use Rattle.cursor.specs.declared.Cursor.{Cursor}
use Rattle.cursor.specs.Walking.{named, if_sound, rest_of}
use Rattle.answers.specs.Layout.{part_number_of}
use Rattle.c_walk.specs.Cursors.{cursor_of_value, prefix_for_value, phase_number_of, rest_numbers_of}

pub in_period : (k at : ℕ) → k ≡ 3 → record { phase = Period; at = at } ≡ cursor_of_value k at
in_period k at e = ap (λ (t : Bool). record { phase = cond t Period Prefix; at = at }) (sym (eq-eqb k 3 e))

pub in_prefix : (k at : ℕ) → (k ≡ 3 → ⊥) → record { phase = Prefix; at = at } ≡ cursor_of_value k at
in_prefix k at e = ap (λ (t : Bool). record { phase = cond t Period Prefix; at = at }) (sym (ne_eqb k 3 e))

pub all-letters : (k : ℕ) (u : List ℕ) → k ≡ 2 → u ≡ prefix_for_value k u
all-letters k u e = ap (λ (t : Bool). cond t u []) (sym (eq-eqb k 2 e))

pub no-letters : (k : ℕ) (u : List ℕ) → (k ≡ 2 → ⊥) → [] ≡ prefix_for_value k u
no-letters k u e = ap (λ (t : Bool). cond t u []) (sym (ne_eqb k 2 e))

-- A step is refused by two tests; letters are left exactly where neither is met.
module _ (c : Cursor) (u v : List ℕ) where
  abbrev tests : Bool → Bool → Fault
  tests b d = when b EmptyLoop part.Loop 0 then when d CursorPastEnd part.Cursor c.at

  module _ (there none : List ℕ) where
    without : (b d : Bool) → leb (length (named c u v)) c.at ≡ d → length (if_sound (tests b d) (drop c.at (named c u v)) []) ≡ 0
        → none ≡ if_sound (tests b d) there none
    without true d e h = refl
    without false true e h = refl
    without false false e h = absurd (omega (arith, h, length-drop c.at (named c u v), leb-false (length (named c u v)) c.at e))

    with : (b d : Bool) → (length (if_sound (tests b d) (drop c.at (named c u v)) []) ≡ 0 → ⊥) → there ≡ if_sound (tests b d) there none
    with true d h = absurd (h refl)
    with false true h = absurd (h refl)
    with false false h = refl

  pub no-rest : length (rest_of c u v) ≡ 0 → part_number_of part.Opening ∷ 0 ∷ 0 ∷ [] ≡ rest_numbers_of c u v
  no-rest = without _ _ (eqb (length v) 0) (leb (length (named c u v)) c.at) refl

  pub some-rest : (length (rest_of c u v) ≡ 0 → ⊥) → phase_number_of c.phase ∷ c.at ∷ length (rest_of c u v) ∷ [] ≡ rest_numbers_of c u v
  some-rest = with _ _ (eqb (length v) 0) (leb (length (named c u v)) c.at)
