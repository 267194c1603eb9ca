-- Sheet and lasso: none is refused exactly if the sheet is valid and the lasso is one over its letters. The prefix is refused exactly where
-- the pass over it fails. Assumes nothing.
use Rattle.slices.specs.declared.Reason.TheVariants.{EmptyLoop, UnknownLetter}
use Rattle.std.specs.Prelude.{Ok}
use mathlib.Core.Path.{◌≡◌, refl, ap, sym, subst, ◌∙◌}
use mathlib.Core.Bool.{Bool, true, false, true≢false}
use mathlib.Core.List.{List}
use Prim.Native.Nat.{ℕ, ◌+◌, ◌≤◌}
use native.Mathlib.Omega.{arith}
use lib.Dec.{eqb, ltb}
use lib.ListN.{length}
use Rattle.slices.specs.declared.Part.TheVariants.{First, Opening, Loop}
use Rattle.slices.specs.Refusals.{Fault, sound, fault, fault_of, ◌then◌, when}
use Rattle.slices.specs.LassoLetters.{period_fault, letters_fault}
use Rattle.slices.specs.Scans.{first_outside_of}
use Rattle.slices.proofs.Capped.{capped_is}
use Rattle.slices.proofs.Refusals.{passed, then-left, then-right}
use Rattle.fdfa.specs.Family.{Lasso}
use Rattle.fdfa.specs.Pass.{start, unknown}
use Rattle.fdfa.proofs.Letters.{unknown-fault, known-fault, letters-lasso, lasso-letters}
use Rattle.fdfa.proofs.Pass.{Judged, known, stops, judged}
use Rattle.packed.specs.Layout.{letter_count, Valid}
use Rattle.packed.specs.Faults.{sheet_fault}
use Rattle.packed.proofs.Soundness.{sound-valid, valid-sound}
use Rattle.prefix_pass.specs.Parts.{passed_of}
use Rattle.prefix_pass.proofs.Laws.{prefix-unknown, unknown-prefix}
use Rattle.membership.specs.Verdict.{lasso_fault}

module _ (b u v : List ℕ) where
  pub lasso-valid : lasso_fault b u v ≡ sound → Valid b × Lasso (letter_count b) u v
  unfolding lasso_fault
  lasso-valid e = (
    sound-valid First b (then-left (sheet_fault First b) (letters_fault (letter_count b) u v) e),
    letters-lasso (letter_count b) u v (then-right (sheet_fault First b) (letters_fault (letter_count b) u v) e),
  )

  pub valid-lasso : Valid b → Lasso (letter_count b) u v → lasso_fault b u v ≡ sound
  unfolding lasso_fault
  valid-lasso valid lasso = passed _ (valid-sound First b valid) ∙ lasso-letters (letter_count b) u v lasso

-- a fault of the period is no fault of the prefix
abbrev OfThePeriod : Fault → Type 0
OfThePeriod sound = Unit {0}
OfThePeriod (fault r) = r.part ≡ Loop

period-only : (s : ℕ) (v : List ℕ) → OfThePeriod (period_fault s v)
unfolding period_fault
period-only s v = by (eqb (length v) 0) (ltb (first_outside_of 0 s v 0 (length v)) (length v))
  where
    by : (x y : Bool) → OfThePeriod (when x EmptyLoop Loop 0 then when y UnknownLetter Loop (0 + first_outside_of 0 s v 0 (length v)))
    by true y = refl
    by false true = refl
    by false false = tt

loop-other : Loop ≡ Opening → ⊥
loop-other e = true≢false cc

place-was : {i j : ℕ} → fault_of UnknownLetter Opening i ≡ fault_of UnknownLetter Opening j → i ≡ j
place-was e = ap place e
  where
    place : Fault → ℕ
    place sound = 0
    place (fault r) = r.place

-- of a valid sheet, and a prefix that has no more letters than a number can tell
module _ (b u v : List ℕ) (valid : Valid b) (short : length u ≤ 18446744073709551615) where
  letters : {f : Fault} → letters_fault (letter_count b) u v ≡ f → lasso_fault b u v ≡ f
  unfolding lasso_fault
  letters e = passed _ (valid-sound First b valid) ∙ e

  pub unknown-refused : (i : ℕ) → passed_of b start u ≡ Ok (unknown i) → lasso_fault b u v ≡ fault_of UnknownLetter Opening i
  unknown-refused i e =
      let k = (unknown-prefix b u e).1 in
      let same : i ≡ k.0 = k.2 ∙ capped_is k.0 (omega (arith, k.1.within, short)) in
      letters (unknown-fault _ u v k.0 k.1 ∙ ap (fault_of UnknownLetter Opening) (sym same))

  pub refused-unknown : (i : ℕ) → lasso_fault b u v ≡ fault_of UnknownLetter Opening i → passed_of b start u ≡ Ok (unknown i)
  refused-unknown i e = by (judged (letter_count b) u)
    where
      by : Judged (letter_count b) u → passed_of b start u ≡ Ok (unknown i)
      by (known o) =
          absurd (loop-other (sym (subst OfThePeriod (sym (letters (known-fault _ u v o)) ∙ e) (period-only (letter_count b) v))))
      by (stops k h) =
          let place : k ≡ i = place-was (sym (letters (unknown-fault _ u v k h)) ∙ e) in
          prefix-unknown b u valid k h ∙ ap (λ (n : ℕ). Ok (unknown n)) (capped_is k (omega (arith, h.within, short)) ∙ place)
