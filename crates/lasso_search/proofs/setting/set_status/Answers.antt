-- `lasso_search::setting::set_status` meets its contract: row after row. Assumes nothing.
use native.Mathlib.Omega.{arith}
use Rattle.lasso_search.proofs.Status.{setting-more}
use Rattle.lasso_search.proofs.setting.set_status.Goals as goal

pub loop-y-preserved : goal.loop-y-preserved
loop-y-preserved c = setting-more c.loop-y.invariant (omega arith) c.requires.1 c.status_of.ensures
