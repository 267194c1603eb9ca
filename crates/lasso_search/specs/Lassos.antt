-- A lasso that was found, written to two slices: its parts, whether they fit, and the slices then. Assumes nothing.
use Rattle.std.specs.Prelude.{List, [], ℕ, ltb, length}
use Rattle.slices.specs.declared.Part.TheVariants.{Opening, Loop}
use Rattle.slices.specs.declared.Reason.TheVariants.{FoundTooLong}
use Rattle.slices.specs.Refusals.{Fault, sound, ◌then◌, when}
use Rattle.slices.specs.Filling.{filled}
use Rattle.fdfa.specs.Enumeration.{Witness, absent, lasso}

-- The slices that the lasso is written to.
pub record Lent : Type 0 where
  pub opening : List ℕ
  pub period : List ℕ

-- Too long a lasso: the opening or, if that fits, the loop does not fit, with the length needed.
abbrev pub room_fault : Witness → Lent → Fault
room_fault absent l = sound
room_fault (lasso u v) l =
    when (ltb (length l.opening) (length u)) FoundTooLong Opening (length u)
    then when (ltb (length l.period) (length v)) FoundTooLong Loop (length v)

abbrev pub prefix_of : Witness → List ℕ
prefix_of absent = []
prefix_of (lasso u v) = u

abbrev pub period_of : Witness → List ℕ
period_of absent = []
period_of (lasso u v) = v

-- The slices once the lasso is written, or not, where there is a fault.
abbrev pub lasso_written : Fault → Witness → Lent → Lent
lasso_written f w l = record { opening = filled f (prefix_of w) l.opening; period = filled f (period_of w) l.period }
