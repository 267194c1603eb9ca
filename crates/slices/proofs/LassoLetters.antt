-- The letters of a lasso: which refusal is met, from what the code knows where it meets it. Assumes nothing.
use Rattle.slices.specs.declared.Reason.TheVariants.{EmptyLoop, UnknownLetter}
use mathlib.Core.Path.{◌≡◌}
use mathlib.Core.List.{List}
use Prim.Native.Nat.{ℕ, ◌≤◌, ◌<◌}
use native.Mathlib.Nat.{zero-add}
use lib.ListN.{length}
use borrow.Author.Tests.{lt-ltb, le-ltb, eq-eqb, ne_eqb}
use Rattle.slices.specs.declared.Part.TheVariants.{Opening, Loop}
use Rattle.slices.specs.Refusals.{sound, fault_of}
use Rattle.slices.specs.Scans.{first_outside_of}
use Rattle.slices.specs.LassoLetters.{period_fault, letters_fault}

module _ (s : ℕ) (u v : List ℕ) {i : ℕ} (stops : i ≡ first_outside_of 0 s u 0 (length u)) where
  pub bad-prefix : i < length u → letters_fault s u v ≡ fault_of UnknownLetter Opening i
  unfolding letters_fault
  bad-prefix h = rw (← stops, lt-ltb _ _ h, zero-add i)

  pub good-prefix : length u ≤ i → letters_fault s u v ≡ period_fault s v
  unfolding letters_fault
  good-prefix h = rw (← stops, le-ltb _ _ h)

module _ (s : ℕ) (v : List ℕ) where
  pub no-period : length v ≡ 0 → period_fault s v ≡ fault_of EmptyLoop Loop 0
  unfolding period_fault
  no-period e = rw (eq-eqb _ 0 e)

  module _ (some : length v ≡ 0 → ⊥) {j : ℕ} (ends : j ≡ first_outside_of 0 s v 0 (length v)) where
    pub bad-period : j < length v → period_fault s v ≡ fault_of UnknownLetter Loop j
    unfolding period_fault
    bad-period h = rw (ne_eqb _ 0 some, ← ends, lt-ltb _ _ h, zero-add j)

    pub good-period : length v ≤ j → period_fault s v ≡ sound
    unfolding period_fault
    good-period h = rw (ne_eqb _ 0 some, ← ends, le-ltb _ _ h)
