-- `cart_files::gathering::start` meets its contract. Assumes nothing.
use mathlib.Core.Path.{refl}
use Rattle.cart_files.proofs.Adding.{gathered_none}
use Rattle.cart_files.proofs.gathering.start.Goals as goal

pub returns : goal.returns
returns c = (gathered_none c.args.cart.now c.requires, (refl, refl))
