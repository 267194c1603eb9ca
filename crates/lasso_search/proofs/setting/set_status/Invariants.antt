-- The loop of `lasso_search::setting::set_status`.
use Rattle.lasso_search.specs.Codes.{ends_at}
use Rattle.lasso_search.proofs.Status.{Setting}
use Rattle.lasso_search.proofs.setting.set_status.Given as goal

abbrev pub invariant-loop-y : goal.invariant-loop-y
invariant-loop-y l = Setting l.status l.n l.q l.count (ends_at l.first l.second l.m) l.y
