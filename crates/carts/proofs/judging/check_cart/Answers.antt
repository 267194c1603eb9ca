-- `carts::judging::check_cart` meets its contract: the layout, then the shows. Assumes nothing.
use mathlib.Core.Path.{ap, sym, ◌∙◌}
use native.Mathlib.Omega.{arith}
use Rattle.slices.proofs.Refusals.{handed, passed, failed}
use Rattle.carts.specs.Reading.{end_from}
use Rattle.carts.specs.Faults.{shows_fault, cart_fault}
use Rattle.carts.proofs.Layouts.{layout-byte, layout-exact}
use Rattle.carts.proofs.judging.check_cart.Goals as goal

pub bounds-cart-0 : goal.bounds-cart-0
bounds-cart-0 c = omega (arith, layout-byte _ (sym c.in_ok-check_layout.ensures))

pub check_shows-requires : goal.check_shows-requires
check_shows-requires c = ap (end_from c.args.cart.now 1) c.from.ensures ∙ layout-exact _ (sym c.in_ok-check_layout.ensures)

pub returns-in_err-check_layout : goal.returns-in_err-check_layout
unfolding cart_fault
returns-in_err-check_layout c = rw (handed c.from_residual.ensures) (sym (failed _ (sym c.in_err-check_layout.ensures)))

pub returns : goal.returns
unfolding cart_fault
returns c =
    c.check_shows.ensures
    ∙ (ap (shows_fault c.args.letters c.args.cart.now 1) c.from.ensures ∙ sym (passed _ (sym c.in_ok-check_layout.ensures)))
