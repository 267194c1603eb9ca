-- The seconds of letters: which refusal is met, from what the code knows where it meets it; and where none is. Assumes nothing.
use Rattle.slices.specs.declared.Reason.TheVariants.{SecondsRange, TooLittleRoom}
use mathlib.Core.Path.{◌≡◌, sym, subst, ◌∙◌}
use mathlib.Core.List.{List}
use Prim.Native.Nat.{ℕ, ◌≤◌, ◌<◌}
use native.Mathlib.Nat.{zero-add}
use lib.Dec.{ltb}
use lib.ListN.{length, get_or}
use borrow.Author.Tests.{lt-ltb, le-ltb, ltb-false}
use Rattle.slices.specs.declared.Part.TheVariants.{Seconds}
use Rattle.slices.specs.Refusals.{sound, fault_of, when}
use Rattle.slices.specs.Scans.{first_outside_of, scan}
use Rattle.slices.specs.Seconds.{seconds_fault, TimesFit}
use Rattle.slices.proofs.Refusals.{then-left, then-right, when-sound, when-passes, passed}
use Rattle.slices.proofs.Scans.{scan-sound, sound-scan}

module _ (m : ℕ) (w : List ℕ) where
  pub few-seconds : length w < m → seconds_fault m w ≡ fault_of TooLittleRoom Seconds m
  unfolding seconds_fault
  few-seconds h = rw (lt-ltb _ _ h)

  module _ (many : m ≤ length w) {i : ℕ} (stops : i ≡ first_outside_of 1 1000 w 0 m) where
    pub bad-seconds : i < m → seconds_fault m w ≡ fault_of SecondsRange Seconds i
    unfolding seconds_fault
    bad-seconds h = rw (le-ltb _ _ many, ← stops, lt-ltb _ _ h, zero-add i)

    pub good-seconds : m ≤ i → seconds_fault m w ≡ sound
    unfolding seconds_fault
    good-seconds h = rw (le-ltb _ _ many, ← stops, le-ltb _ _ h)

  -- nothing is refused exactly where every letter has its seconds
  pub seconds-fit : seconds_fault m w ≡ sound → TimesFit m w
  unfolding seconds_fault
  seconds-fit e = record { many = ltb-false (length w) m (when-sound _ TooLittleRoom Seconds m (then-left (when (ltb (length w) m) TooLittleRoom Seconds m) _ e)); good = good }
    where
      good : (a : ℕ) → a < m → (1 ≤ get_or w a 0) × (get_or w a 0 < 1000)
      good a h =
          subst (λ (n : ℕ). (1 ≤ get_or w n 0) × (get_or w n 0 < 1000)) (zero-add a)
          (scan-sound SecondsRange Seconds 1 1000 w 0 m (then-right (when (ltb (length w) m) TooLittleRoom Seconds m) _ e) a h)

  pub fit-seconds : TimesFit m w → seconds_fault m w ≡ sound
  unfolding seconds_fault
  fit-seconds t =
      passed (scan SecondsRange Seconds 1 1000 w 0 m) (when-passes TooLittleRoom Seconds m (le-ltb (length w) m t.many))
      ∙ sound-scan SecondsRange Seconds 1 1000 w 0 m (λ k h. subst (λ (n : ℕ). (1 ≤ get_or w n 0) × (get_or w n 0 < 1000)) (sym (zero-add k)) (t.good k h))
