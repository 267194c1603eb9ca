-- `cart_files::deciding::decide_sheet` meets its contract. Assumes nothing.
use mathlib.Core.Path.{refl, sym}
use lib.Seq.{length-take-le}
use Rattle.slices.specs.declared.Part.TheVariants.{First}
use Rattle.sheet_forms.specs.Forms.{sheet_from}
use Rattle.sheet_forms.proofs.Taken.{was-filled-with, packed_as}
use Rattle.cart_files.proofs.Decisions.{sheet-read}
use Rattle.cart_files.proofs.deciding.decide_sheet.Goals as goal

pub slice_bounds-bytes-end : goal.slice_bounds-bytes-end
slice_bounds-bytes-end c = (was-filled-with _ c.in_ok-n.ensures refl).0

pub slice_bounds-decide_cart-end : goal.slice_bounds-decide_cart-end
slice_bounds-decide_cart-end c = sym (length-take-le _ _ (was-filled-with _ c.in_ok-n.ensures refl).0)

pub returns : goal.returns
returns c =
    let packed = packed_as First c.args.sheet.now c.form_of.ensures c.in_ok-n.ensures in
    sheet-read (sheet_from First c.args.sheet.now) c.args.cart.now c.args.kept (was-filled-with _ packed refl).1 c.decide_cart.ensures
