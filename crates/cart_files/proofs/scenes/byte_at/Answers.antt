-- `cart_files::scenes::byte_at` meets its contract. Assumes nothing.
use mathlib.Core.Path.{sym}
use native.Mathlib.Omega.{arith}
use lib.ListN.{get_or-eq_default}
use Rattle.cart_files.proofs.scenes.byte_at.Goals as goal

pub returns-then-at-cart : goal.returns-then-at-cart
returns-then-at-cart c = (c.from.ensures, omega (arith, c.from.ensures, c.type_inv.cart c.args.at))

pub returns-else-at-cart : goal.returns-else-at-cart
returns-else-at-cart c = (sym (get_or-eq_default c.args.cart.now 0 c.if-at-cart.false), omega arith)
