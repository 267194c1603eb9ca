-- `lasso_search::first_lasso` meets its contract. Assumes nothing.
use mathlib.Core.Path.{ap, subst}
use mathlib.Core.List.{List}
use Prim.Native.Nat.{ℕ}
use native.Mathlib.Omega.{arith}
use Rattle.pairing.specs.declared.PairSizes.{PairSizes}
use Rattle.lasso_search.specs.Lassos.{Lent}
use Rattle.lasso_search.specs.Reporting.{difference}
use Rattle.lasso_search.specs.Codes.{FirstLasso}
use Rattle.lasso_search.proofs.Written.{reports-none, reports-first, reports-as}
use Rattle.lasso_search.proofs.first_lasso.Goals as goal
use Rattle.lasso_search.proofs.first_lasso.Goals.{in-None, in-Some}

pub returns-clause-reports : goal.returns-clause-reports
returns-clause-reports c =
    let P = difference c.args.first.now c.args.second.now in
    let lent : Lent = record { opening = c.args.opening.now; period = c.args.period.now } in
    let work : List ℕ = c.locate-found.new.work in
    let L = c.locate-found.ensures in
    let pairs = ap (λ (z : PairSizes). z.pairs) c.requires.1 in
    elim c.match-found.branch [
      | in-None w ↦ reports-as w.opening-is w.period-is w.reported-is (reports-none P L.0 lent (subst (FirstLasso P work) w.in-None.is L.1))
      | in-Some w ↦
          reports-as w.opening-is w.period-is w.reported-is
          (reports-first P L.0 lent (subst (FirstLasso P work) w.in-Some.is L.1) (omega (arith, c.locate-found.auto, c.requires.2, pairs)) _ pairs w.tell-reported.ensures)
    ]
