-- `cart::saying::put_rejected` meets its contract. Assumes nothing.
use Rattle.cart.proofs.Spoken.{rejected-said}
use Rattle.cart.proofs.saying.put_rejected.Goals as goal

pub returns : goal.returns
returns c =
    rejected-said c.args.name.now c.args.one.now c.requires.0 c.requires.1 c.requires.2 c.put_literal-named.ensures c.put_literal-judged.ensures c.put_literal-by.ensures c.put_literal.ensures
