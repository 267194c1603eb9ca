-- `cart_files::gathering::add_show` meets its contract. Assumes nothing.
use mathlib.Core.Path.{sym}
use Rattle.cart_files.proofs.Adding.{adds-long}
use Rattle.cart_files.proofs.gathering.add_show.Goals as goal

pub returns-in-Err : goal.returns-in-Err
returns-in-Err c = adds-long c.args.text.now c.requires.1 c.requires.2 (sym c.in-Err.ensures) c.add_long.ensures
