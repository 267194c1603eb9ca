-- `cart::gathering::add_named` meets its contract. Assumes nothing.
use native.Mathlib.Omega.{arith}
use Rattle.cart.specs.Said.{show_file}
use Rattle.cart.proofs.Wordings.{worded-more}
use Rattle.cart.proofs.gathering.add_named.Goals as goal

pub returns : goal.returns
returns c = (
  c.add_show-held.ensures,
  omega (arith, c.put_kept-n.ensures.within, c.requires.2),
  worded-more (show_file c.args.name.now c.args.text.now) c.add_show-held.ensures c.put_kept-n.ensures,
)
