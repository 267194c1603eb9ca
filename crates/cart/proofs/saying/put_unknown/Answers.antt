-- `cart::saying::put_unknown` meets its contract. Assumes nothing.
use Rattle.cart.proofs.Spoken.{unknown-said}
use Rattle.cart.proofs.saying.put_unknown.Goals as goal

pub returns : goal.returns
returns c =
    unknown-said c.args.name.now c.args.scene c.args.r c.opening_lines-openings.ensures.0 c.refuse-q.ensures c.put_show.ensures
