-- A show of a cart is refused for what it is refused alone, with the place counted from the cart's first byte. Assumes nothing.
use Rattle.slices.specs.declared.Reason.TheVariants.{EmptyLoop, UnknownLetter}
use mathlib.Core.Path.{◌≡◌, refl, ap, sym, ◌∙◌}
use mathlib.Core.Bool.{Bool, true, false}
use mathlib.Core.List.{List}
use Prim.Native.Nat.{ℕ, ◌+◌, ◌≤◌}
use native.Mathlib.Omega.{arith}
use native.Mathlib.Nat.{zero-add, add-zero}
use lib.Dec.{eqb, ltb}
use lib.ListN.{length, get_or, take, drop}
use Rattle.slices.specs.declared.Part.TheVariants.{Opening, Loop}
use Rattle.slices.specs.LassoLetters.{period_fault, letters_fault}
use Rattle.slices.specs.Refusals.{fault_of, ◌then◌, when}
use Rattle.slices.specs.Scans.{outside, first_outside_of}
use Rattle.slices.proofs.Extremes.{least-same}
use Rattle.carts.specs.Reading.{prefix_length, period_length, prefix_at, period_at, end_at, show_at}
use Rattle.carts.specs.Faults.{show_fault}
use Rattle.carts.specs.Places.{counted}
use Rattle.carts.proofs.Shows.{part_length, part-letter}

-- a part of the cart is scanned as the word that it is
scanned : (s : ℕ) (b : List ℕ) (o m : ℕ) → o + m ≤ length b → first_outside_of 0 s b o m ≡ first_outside_of 0 s (take m (drop o b)) 0 m
unfolding first_outside_of
scanned s b o m h =
    least-same m (λ i. outside 0 s (get_or b (o + i) 0)) (λ i. outside 0 s (get_or (take m (drop o b)) (0 + i) 0))
    (λ i l. ap (outside 0 s) (sym (part-letter b o m h i l) ∙ ap (λ (k : ℕ). get_or (take m (drop o b)) k 0) (sym (zero-add i))))

module _ (s : ℕ) (b : List ℕ) (at : ℕ) (within : end_at b at ≤ length b) where
  abbrev u : List ℕ
  u = (show_at b at).prefix

  abbrev v : List ℕ
  v = (show_at b at).period

  pub show-alone : show_fault s b at ≡ counted (prefix_at at) (period_at b at) (letters_fault s u v)
  unfolding show_fault letters_fault period_fault
  show-alone =
      (λ i. when (ltb (first i) (m i)) UnknownLetter Opening (prefix_at at + first i) then when (eqb (n i) 0) EmptyLoop Loop (period_at b at) then when (ltb (second i) (n i)) UnknownLetter Loop (period_at b at + second i))
      ∙ by (ltb (first_outside_of 0 s u 0 (length u)) (length u)) (eqb (length v) 0) (ltb (first_outside_of 0 s v 0 (length v)) (length v))
    where
      m : prefix_length b at ≡ length u
      m = sym (part_length b (prefix_at at) (prefix_length b at) (omega arith))

      n : period_length b at ≡ length v
      n = sym (part_length b (period_at b at) (period_length b at) within)

      first : first_outside_of 0 s b (prefix_at at) (prefix_length b at) ≡ first_outside_of 0 s u 0 (length u)
      first = scanned s b (prefix_at at) (prefix_length b at) (omega arith) ∙ ap (first_outside_of 0 s u 0) m

      second : first_outside_of 0 s b (period_at b at) (period_length b at) ≡ first_outside_of 0 s v 0 (length v)
      second = scanned s b (period_at b at) (period_length b at) within ∙ ap (first_outside_of 0 s v 0) n

      by : (x y z : Bool)
          → (when x UnknownLetter Opening (prefix_at at + first_outside_of 0 s u 0 (length u)) then when y EmptyLoop Loop (period_at b at) then when z UnknownLetter Loop (period_at b at + first_outside_of 0 s v 0 (length v)))
          ≡ counted (prefix_at at) (period_at b at)
          (when x UnknownLetter Opening (0 + first_outside_of 0 s u 0 (length u)) then when y EmptyLoop Loop 0 then when z UnknownLetter Loop (0 + first_outside_of 0 s v 0 (length v)))
      by true y z = ap (λ (k : ℕ). fault_of UnknownLetter Opening (prefix_at at + k)) (sym (zero-add _))
      by false true z = ap (fault_of EmptyLoop Loop) (sym (add-zero (period_at b at)))
      by false false true = ap (λ (k : ℕ). fault_of UnknownLetter Loop (period_at b at + k)) (sym (zero-add _))
      by false false false = refl
