-- Of the inner function that makes an answer of what the search found. Assumes nothing.
use Rattle.std.specs.Prelude.{ℕ, ◌≤◌, length, take}
use Rattle.fdfa.specs.Family.{Fdfa, Lasso}
use Rattle.fdfa.specs.Enumeration.{absent, lasso}
use Rattle.standing.specs.declared.Standings.{Standings}
use Rattle.standing.specs.Structs.{standings_of}
use Rattle.lasso_search.specs.declared.Finding.{Finding}
use Rattle.lasso_search.specs.declared.Reported.{Reported}
use Rattle.lasso_search.specs.declared.Reported.TheVariants as search
use Rattle.lasso_search.specs.Lassos.{Lent}
use Rattle.inclusion.specs.declared.Comparison.{Comparison}
use Rattle.inclusion.specs.declared.Outcome.{Outcome}
use Rattle.inclusion.specs.declared.Outcome.TheVariants.{Absent, Found}

abbrev pub joined : Finding → Standings → Comparison
joined z s = record { reached = z.reached; prefix = z.prefix; period = z.period; first = s.first; second = s.second }

-- A lasso that was found lies in the slices, and is over s letters.
abbrev pub LiesIn : ℕ → Lent → Reported → Type 0
LiesIn s l (search.Absent z) = Unit {0}
LiesIn s l (search.Found z) =
    (z.prefix ≤ length l.opening)
    × (z.period ≤ length l.period)
    × Lasso s (take z.prefix l.opening) (take z.period l.period)

abbrev pub placed_of : Fdfa → Fdfa → Lent → Reported → Outcome
placed_of F G l (search.Absent z) = Absent (joined z (standings_of F G absent))
placed_of F G l (search.Found z) = Found (joined z (standings_of F G
    (lasso (take z.prefix l.opening) (take z.period l.period))))
