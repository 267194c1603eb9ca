-- `compare::saying::put_names` meets its contract. Assumes nothing.
use Rattle.compare.proofs.Spoken.{names-stored}
use Rattle.compare.proofs.saying.put_names.Goals as goal

pub returns : goal.returns
returns c =
    names-stored c.args.lead.now c.args.one.now c.args.two.now c.args.close.now c.requires.0 c.requires.1 c.requires.2 c.requires.3 c.put_literal-begun.ensures c.put_literal-first.ensures c.put_literal-joined.ensures c.put_literal-second.ensures c.put_literal.ensures
