-- The formats of a text with a limit on its states, beside those with the limit 1000: they refuse as no next state one that is not below
-- the limit, and else say the same. Assumes nothing.
use Rattle.slices.specs.declared.Reason.{Reason}
use Rattle.slices.specs.declared.Reason.TheVariants.{LetterCount, StateCount, NextState, OffLayout, OutOfTurn}
use mathlib.Core.Path.{◌≡◌, refl}
use mathlib.Core.Bool.{Bool, true, false, cond, ◌&&◌}
use mathlib.Core.List.{[], ◌∷◌}
use Prim.Native.Nat.{ℕ, ◌≤◌, ◌<◌}
use native.Mathlib.Omega.{arith}
use native.Mathlib.Decide.{dec_lt}
use lib.Dec.{eqb}
use lib.ListN.{get_or}
use borrow.Author.Tests.{lt-ltb, le-ltb, le-leb}
use Rattle.slices.proofs.Scans.{not-outside}
use Rattle.format.specs.Rows.{due}
use Rattle.format.proofs.Narrower.{Narrower, narrower-seq, narrower-chained, Looser, taken, denied, beyond, looser-same, narrower-literal, narrower-labelled}
use Rattle.buchi_import.specs.Reading.{turn, due_letter_of, due_state_of, target, transition, transitions, of_start, rising, accepting_state, accepting_states, after_last}

-- what is no text of the format is off the layout
pub off-layout : OffLayout ≡ NextState → ⊥
off-layout e = cc

-- a number in its turn is not refused as no next state
in-turn : (limit : ℕ) (reason : Reason) (i v : ℕ) → (reason ≡ NextState → ⊥) → Looser NextState (turn limit reason i v) (turn limit reason i v) v
in-turn limit reason i v h = looser-same (turn limit reason i v) v (by (eqb i limit && eqb v limit))
  where
    by : (b : Bool) → (cond b (record { low = 0; limit = 0; reason = reason }) (due i)).reason ≡ NextState → ⊥
    by true e = h e
    by false e = cc

module _ (limit : ℕ) where
  -- a column whose reason is that one where only the limit is not kept
  limited : (low : ℕ) (reason : Reason) (v : ℕ) → v < 1000 → (v < low → reason ≡ NextState → ⊥) → (low ≤ v → reason ≡ NextState) → Looser NextState (record { low = low; limit = limit; reason = reason }) (record { low = low; limit = 1000; reason = reason }) v
  limited low reason v s a b = by (dec_lt v low) (dec_lt v limit)
    where
      by : Dec (v < low) → Dec (v < limit) → Looser NextState (record { low = low; limit = limit; reason = reason }) (record { low = low; limit = 1000; reason = reason }) v
      by (yes l) m = denied (rw (lt-ltb v low l)) (rw (lt-ltb v low l)) refl (a l)
      by (no l) (yes m) = taken (not-outside low limit v (omega arith) m) (not-outside low 1000 v (omega arith) s)
      by (no l) (no m) = beyond (rw (le-ltb v low (omega arith), le-leb limit v (omega arith))) (not-outside low 1000 v (omega arith) s) (b (omega arith))

  narrower-target : Narrower NextState (target limit) (target 1000)
  narrower-target = narrower-seq (narrower-labelled off-layout (45 ∷ 62 ∷ 91 ∷ []) 93 (λ v s. limited 0 NextState v s (λ l. absurd (omega arith)) (λ l. refl))) (λ vs. narrower-literal off-layout (10 ∷ []))

  narrower-transition : (m c : ℕ) → Narrower NextState (transition limit m c) (transition 1000 m c)
  unfolding transition
  narrower-transition m c = narrower-seq (narrower-labelled off-layout (115 ∷ []) 44 (λ a s. in-turn 32 LetterCount (due_letter_of m c a) a (λ e. cc))) (λ vs.
      narrower-seq (narrower-labelled off-layout (91 ∷ []) 93 (λ q s. in-turn 16 StateCount (due_state_of m c (get_or vs 0 0)) q (λ e. cc))) (λ us. narrower-target))

  pub transitions-narrower : (m : ℕ) → Narrower NextState (transitions limit m) (transitions 1000 m)
  unfolding transitions
  transitions-narrower m = narrower-chained m (λ i vs. narrower-transition i (of_start i vs))

  narrower-state : (low : ℕ) → Narrower NextState (accepting_state limit low) (accepting_state 1000 low)
  unfolding accepting_state
  narrower-state low = narrower-seq (narrower-labelled off-layout (91 ∷ []) 93 (λ v s. limited low (rising low limit v).reason v s (below v) (above v))) (λ vs. narrower-literal off-layout (10 ∷ []))
    where
      below : (v : ℕ) → v < low → (rising low limit v).reason ≡ NextState → ⊥
      below v l e = let d : (rising low limit v).reason ≡ OutOfTurn = rw (lt-ltb v low l) in cc

      above : (v : ℕ) → low ≤ v → (rising low limit v).reason ≡ NextState
      above v l = rw (le-ltb v low l)

  pub states-narrower : (k : ℕ) → Narrower NextState (accepting_states limit k) (accepting_states 1000 k)
  unfolding accepting_states
  states-narrower k = narrower-chained k (λ i vs. narrower-state (after_last i vs))
