-- `cart::saying::put_one` meets its contract. Assumes nothing.
use Rattle.cart.proofs.Spoken.{one-said}
use Rattle.cart.proofs.saying.put_one.Goals as goal

pub returns : goal.returns
returns c =
    one-said c.args.name.now c.requires.0 c.requires.1 c.put_literal-begun.ensures c.put_literal-named.ensures c.put_literal.ensures
