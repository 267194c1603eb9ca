-- `search::explore` meets its contract: code after code, whatever is looked for. Assumes nothing.
use Rattle.std.proofs.Common.{arith}
use Rattle.search.proofs.Outcomes.{codes-few}
use Rattle.search.proofs.explore.Goals as goal

pub loop-head-smaller : goal.loop-head-smaller
loop-head-smaller c =
    let S = c.loop-head.invariant.all c.requires.aim c.requires.ready in omega (arith, codes-few S, S.room, c.loop-head.invariant.cells_same)
