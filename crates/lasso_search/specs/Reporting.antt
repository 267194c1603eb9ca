-- What the search for the first lasso says, of inner functions: R, and none or the first accepted and normalized lasso
-- of a family. Assumes nothing.
use Rattle.std.specs.Prelude.{◌≡◌, not, ◌&&◌, List, ℕ, length, Result}
use Rattle.slices.specs.declared.Refusal.{Refusal}
use Rattle.slices.specs.Refusals.{unless}
use Rattle.fdfa.specs.Family.{Fdfa}
use Rattle.fdfa.specs.Boolean.{product}
use Rattle.fdfa.specs.Enumeration.{Witness, absent, lasso}
use Rattle.fdfa.specs.Inclusion.{Counts, Reached, Accepted, Answers}
use Rattle.packed.specs.Layout.{decode}
use Rattle.lasso_search.specs.declared.Reported.{Reported}
use Rattle.lasso_search.specs.declared.Reported.TheVariants.{Absent, Found}
use Rattle.lasso_search.specs.Lassos.{Lent, room_fault, lasso_written}

-- The family whose accepted and normalized lassos are the counterexamples: marked where the first is and the second is
-- not.
abbrev pub difference : List ℕ → List ℕ → Fdfa
difference b c = product (λ x y. x && not y) (decode b) (decode c)

-- R, and the lengths of the lasso, 0 where there is none.
abbrev pub report_of : ℕ → Witness → Reported
report_of r absent = Absent (record { reached = r; prefix = 0; period = 0 })
report_of r (lasso u v) = Found (record { reached = r; prefix = length u; period = length v })

-- The answer for the family P: R counts the leading states that prefixes of whatever length reach, and the witness is
-- none, or the first of all its accepted and normalized lassos, which is written where both parts of it fit.
pub record Reports (P : Fdfa) (before after : Lent) (r : Result Reported Refusal) : Type 0 where
  pub reached : ℕ
  pub witness : Witness
  pub counted : Counts (Reached P.letters P.step) P.states reached
  pub answers : Answers (Accepted P) witness
  pub says : r ≡ unless (room_fault witness before) (report_of reached witness)
  pub written : after ≡ lasso_written (room_fault witness before) witness before
