-- Runs of digits, and when a run is a number. Assumes nothing.
use Rattle.std.specs.Prelude.{Ok}
use mathlib.Core.Path.{◌≡◌, refl, ap, sym, subst, ◌∙◌}
use mathlib.Core.Bool.{Bool, true, false, not, ◌||◌, ◌&&◌, true≢false}
use mathlib.Core.List.{List}
use Prim.Native.Nat.{ℕ, zero, suc, ◌+◌, ◌*◌, ◌-◌, ◌≤◌, ◌<◌}
use native.Mathlib.Omega.{arith}
use lib.Dec.{eqb, ltb}
use lib.ListN.{length, get_or}
use borrow.Author.Tests.{le-leb, lt-leb, ltb-false, eqb-false}
use Rattle.slices.specs.Extremes.{least}
use Rattle.slices.proofs.Extremes.{least-before, least-bound, least-passes}
use Rattle.slices.specs.Scans.{outside, first_outside_of}
use Rattle.slices.proofs.Scans.{inside}
use Rattle.slices.specs.declared.Part.{Part}
use Rattle.numbers.specs.Numerals.{run_of, value_of, malformed, misread, number_at_value}

pub run_none : (t : List ℕ) (at : ℕ) → length t ≤ at → 0 ≡ run_of t at
unfolding run_of first_outside_of least
run_none t at h = let e : 0 ≡ length t - at = omega arith in ap (first_outside_of 48 58 t at) e

pub run-bound : (t : List ℕ) (at : ℕ) → at ≤ length t → at + run_of t at ≤ length t
unfolding run_of first_outside_of
run-bound t at h = omega (arith, least-bound (length t - at) (λ i. outside 48 58 (get_or t (at + i) 0)))

pub run-digits : (t : List ℕ) (at i : ℕ) → i < run_of t at → (48 ≤ get_or t (at + i) 0) × (get_or t (at + i) 0 < 58)
unfolding run_of first_outside_of
run-digits t at i h = by (outside 48 58 (get_or t (at + i) 0)) refl
  where
    by : (s : Bool) → outside 48 58 (get_or t (at + i) 0) ≡ s → (48 ≤ get_or t (at + i) 0) × (get_or t (at + i) 0 < 58)
    by true e = absurd (least-before (length t - at) (λ j. outside 48 58 (get_or t (at + j) 0)) i h e)
    by false e = inside 48 58 (get_or t (at + i) 0) e

-- the byte after a run is no digit
pub run_ends : (t : List ℕ) (at : ℕ) → at + run_of t at < length t → outside 48 58 (get_or t (at + run_of t at) 0) ≡ true
unfolding run_of first_outside_of
run_ends t at h = least-passes (length t - at) (λ i. outside 48 58 (get_or t (at + i) 0)) (omega arith)

-- a run that is not malformed has one to three digits
pub well-formed : (r x : ℕ) → malformed r x ≡ false → (1 ≤ r) × (r ≤ 3)
well-formed r x e = by (eqb r 0) refl (ltb 3 r) refl e
  where
    by : (s : Bool) → eqb r 0 ≡ s → (u : Bool) → ltb 3 r ≡ u → s || (u || (not (eqb r 1) && eqb x 48)) ≡ false → (1 ≤ r) × (r ≤ 3)
    by true p u q d = absurd (true≢false d)
    by false p true q d = absurd (true≢false d)
    by false p false q d = let z : r ≡ 0 → ⊥ = eqb-false r 0 p in (positive r z, ltb-false 3 r q)
      where
        positive : (m : ℕ) → (m ≡ 0 → ⊥) → 1 ≤ m
        positive zero z = absurd (z refl)
        positive (suc m) z = omega arith

-- the value, digit by digit
at_none : (at : ℕ) → at + 0 ≡ at
at_none at = omega arith

pub first-digit : (t : List ℕ) (at r : ℕ) → at + r ≤ length t → 1 ≤ r → ((i : ℕ) → i < r → (48 ≤ get_or t (at + i) 0) × (get_or t (at + i) 0 < 58)) → (at < length t) × (48 ≤ get_or t at 0) × (get_or t at 0 < 58)
first-digit t at r h l d =
    (omega arith, subst (λ (k : ℕ). 48 ≤ get_or t k 0) (at_none at) (d 0 (omega arith)).0, subst (λ (k : ℕ). get_or t k 0 < 58) (at_none at) (d 0 (omega arith)).1)

module _ (t : List ℕ) (at a : ℕ) (x : a ≡ get_or t at 0 - 48) where
  first : get_or t (at + 0) 0 - 48 ≡ a
  first = ap (λ (k : ℕ). get_or t k 0 - 48) (at_none at) ∙ sym x

  pub value-one : a ≡ value_of t at 1
  unfolding value_of
  value-one = omega (arith, first)

  pub value-two : (b : ℕ) → b ≡ get_or t (at + 1) 0 - 48 → a * 10 + b ≡ value_of t at 2
  unfolding value_of
  value-two b y = omega (arith, first)

  pub value-three : (b c : ℕ) → b ≡ get_or t (at + 1) 0 - 48 → c ≡ get_or t (at + 2) 0 - 48 → a * 100 + b * 10 + c ≡ value_of t at 3
  unfolding value_of
  value-three b c y z = omega (arith, first)

module _ (part : Part) (t : List ℕ) (at : ℕ) where
  pub number-none : length t ≤ at → number_at_value part t at ≡ misread part (length t)
  unfolding number_at_value
  number-none h = rw (le-leb (length t) at h)

  pub number-bad : at < length t → malformed (run_of t at) (get_or t at 0) ≡ true → number_at_value part t at ≡ misread part at
  unfolding number_at_value
  number-bad h e = rw (lt-leb (length t) at h, e)

  pub number-good : at < length t → malformed (run_of t at) (get_or t at 0) ≡ false → number_at_value part t at ≡ Ok (record { value = value_of t at (run_of t at); next = at + run_of t at })
  unfolding number_at_value
  number-good h e = rw (lt-leb (length t) at h, e)
