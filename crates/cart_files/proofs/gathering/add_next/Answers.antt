-- `cart_files::gathering::add_next` meets its contract. Assumes nothing.
use mathlib.Core.Path.{refl}
use Rattle.cart_files.proofs.Adding.{adds-refused, adds-filled}
use Rattle.cart_files.proofs.gathering.add_next.Goals as goal

pub returns-in-Err : goal.returns-in-Err
returns-in-Err c = adds-refused c.args.text.now c.requires.1 c.requires.2 c.requires.3 c.requires.4 c.in-Err.ensures c.counted.ensures

pub returns-in-Ok : goal.returns-in-Ok
returns-in-Ok c = adds-filled c.args.text.now c.requires.1 c.requires.2 c.requires.3 c.requires.4 c.requires.0 c.in-Ok.ensures refl
