-- The stages of reading a text: the first reading, with the limit 1000, refuses no next state; and where it finds numbers, the second, with
-- the limit that they say, refuses a next state only. Assumes nothing.
use Rattle.slices.specs.declared.Reason.TheVariants.{NextState, NoneAccepting}
use Rattle.std.specs.Prelude.{Result, Ok, Err}
use mathlib.Core.Path.{◌≡◌, refl, sym, ap, ◌∙◌}
use mathlib.Core.List.{List}
use Prim.Native.Nat.{ℕ}
use Rattle.slices.specs.declared.Part.TheVariants.{First}
use Rattle.slices.specs.declared.Refusal.{Refusal}
use Rattle.slices.specs.Refusals.{number_of}
use Rattle.slices.proofs.Reasons.{own-number}
use Rattle.format.specs.Format.{Found}
use Rattle.format.proofs.Narrower.{Staged, tested, second-never, both_found, first-only, staged-then, narrower-literal, staged-closing, staged-repeated}
use Rattle.buchi_import.specs.Text.{start_line}
use Rattle.buchi_import.specs.Reading.{Numbers, ended, whole, moved, started, states_in, numbers_below, again, numbers_of}
use Rattle.buchi_import.proofs.Limits.{off-layout, transitions-narrower, states-narrower}

module _ (limit : ℕ) (t : List ℕ) where
  -- where the accepting states were read
  staged-end : (ms : List ℕ) {x y : Result Found Refusal} → Staged NextState x y → Staged NextState (ended t ms x) (ended t ms y)
  staged-end ms s = staged-closing off-layout First t NoneAccepting (λ (fs : List ℕ). record { moves = ms; finals = fs }) (λ e. cc) s

  staged-moves : (w : Found) → Staged NextState (moved limit t (Ok w)) (moved 1000 t (Ok w))
  staged-moves w = tested (whole w.values) _ off-layout (staged-end w.values (staged-repeated First t 91 w.next (states-narrower limit)))

  staged-start : (w : Found) → Staged NextState (started limit t (Ok w)) (started 1000 t (Ok w))
  staged-start w = staged-then (moved limit t) (moved 1000 t) (λ r. refl) (λ r. refl) staged-moves (staged-repeated First t 115 w.next (transitions-narrower limit))

  -- with any limit a text is read as with 1000, or refused as no next state; with 1000 it is not
  pub stages : Staged NextState (numbers_below limit t) (numbers_below 1000 t)
  unfolding numbers_below
  stages = staged-then (started limit t) (started 1000 t) (λ r. refl) (λ r. refl) staged-start ((narrower-literal off-layout start_line).staged First t 0)

-- what is read with a limit is read with 1000
pub wider : (limit : ℕ) (t : List ℕ) (w : Numbers) → numbers_below limit t ≡ Ok w → numbers_below 1000 t ≡ Ok w
wider limit t w e = both_found (stages limit t) e

-- the first reading gives no 5
pub first-no-five : (t : List ℕ) (r : Refusal) → numbers_below 1000 t ≡ Err r → number_of r.reason ≡ 5 → ⊥
first-no-five t r e five = second-never (stages 1000 t) e (own-number r.reason NextState five)

-- where it refuses nothing, the second refuses a next state only
pub second-five : (t : List ℕ) (w : Numbers) (r : Refusal) → numbers_below 1000 t ≡ Ok w → numbers_of t ≡ Err r → r.reason ≡ NextState
unfolding numbers_of
second-five t w r d e = first-only (stages (states_in w.moves) t) d (sym (ap (again t) d) ∙ e)
