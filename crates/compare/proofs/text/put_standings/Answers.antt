-- `compare::text::put_standings` meets its contract. Assumes nothing.
use Rattle.compare.proofs.Blocks.{standing-stored}
use Rattle.compare.proofs.text.put_standings.Goals as goal

pub returns : goal.returns
returns c =
    standing-stored c.args.z c.put_literal-named.ensures c.put_standing-one.ensures c.put_standing.ensures
