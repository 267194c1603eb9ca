-- `cart::saying::put_sheet` meets its contract. Assumes nothing.
use Rattle.cart.proofs.Spoken.{sheet-said}
use Rattle.cart.proofs.saying.put_sheet.Goals as goal

pub returns : goal.returns
returns c =
    sheet-said c.args.one.now c.args.sheet.now c.args.r c.form_of.ensures c.is_text-lined.ensures c.refusal_words.ensures
