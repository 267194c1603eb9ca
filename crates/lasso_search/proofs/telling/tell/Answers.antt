-- `lasso_search::telling::tell` meets its contract. Assumes nothing.
use Rattle.lasso_search.proofs.Written.{tells-opening, tells-period, tells_all}
use Rattle.lasso_search.proofs.telling.tell.Goals as goal

pub returns-then-opening-u : goal.returns-then-opening-u
returns-then-opening-u c = tells-opening _ _ _ _ _ _ _ c.depth-u.ensures c.depth-v.ensures c.refuse.ensures c.if-opening-u.true

pub returns-then-period-v : goal.returns-then-period-v
returns-then-period-v c =
    tells-period _ _ _ _ _ _ _ c.depth-u.ensures c.depth-v.ensures c.refuse-then-period-v.ensures c.if-opening-u.false c.if-period-v.true

pub returns : goal.returns
returns c = tells_all _ _ _ _ _ _ _ c.depth-u.ensures c.depth-v.ensures c.if-opening-u.false c.if-period-v.false c.fill.ensures c.fill-2.ensures
