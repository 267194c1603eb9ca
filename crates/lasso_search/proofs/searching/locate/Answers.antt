-- `lasso_search::searching::locate` meets its contract. Assumes nothing.
use native.Mathlib.Omega.{arith}
use Rattle.lasso_search.proofs.Difference.{pairs-fit, widest_fits, all_fit, can-find}
use Rattle.lasso_search.proofs.searching.locate.Goals as goal

pub find_within-requires-clause-room : goal.find_within-requires-clause-room
find_within-requires-clause-room c =
    let p = c.requires in
    let t = c.leads-t.ensures in
    can-find p.0 t p.1 (pairs-fit p.0 t p.1) (widest_fits p.0 t p.1) (all_fit p.0 t p.1) p.2

pub find_within-requires-then-n-t-gt2048-clause-room : goal.find_within-requires-then-n-t-gt2048-clause-room
find_within-requires-then-n-t-gt2048-clause-room c =
    let p = c.requires in
    let t = c.leads-t.ensures in
    can-find p.0 t p.1 (pairs-fit p.0 t p.1) (widest_fits p.0 t p.1) (omega arith) p.2

pub find_within-requires-2-clause-room : goal.find_within-requires-2-clause-room
find_within-requires-2-clause-room c = let p = c.requires in can-find p.0 c.leads-t.ensures p.1 (omega arith) (omega arith) (omega arith) p.2
