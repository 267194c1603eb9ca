-- The model's answer to a comparison, or to the test of emptiness, as the struct and the enum of the code. Assumes
-- nothing.
use Rattle.std.specs.Prelude.{Bool, true, false, length}
use Rattle.fdfa.specs.Enumeration.{Witness, absent, lasso}
use Rattle.fdfa.specs.Inclusion as model
use Rattle.standing.specs.Structs.{standing_of}
use Rattle.lasso_search.specs.Lassos.{prefix_of, period_of}
use Rattle.inclusion.specs.declared.Comparison.{Comparison}
use Rattle.inclusion.specs.declared.Outcome.{Outcome}
use Rattle.inclusion.specs.declared.Outcome.TheVariants.{Absent, Found}

-- R, the lengths of the lasso, 0 where there is none, and where each sheet stands on it.
abbrev pub numbers_of : model.Comparison → Comparison
numbers_of C = record {
  reached = C.reached;
  prefix = length (prefix_of C.witness);
  period = length (period_of C.witness);
  first = standing_of C.first;
  second = standing_of C.second;
}

abbrev pub is_absent : Witness → Bool
is_absent absent = true
is_absent (lasso u v) = false

-- That there is no such lasso, or the first one, with the numbers.
abbrev pub answered : Bool → Comparison → Outcome
answered true z = Absent z
answered false z = Found z

abbrev pub answer_of : model.Comparison → Outcome
answer_of C = answered (is_absent C.witness) (numbers_of C)
