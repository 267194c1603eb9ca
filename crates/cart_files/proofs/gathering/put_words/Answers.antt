-- `cart_files::gathering::put_words` meets its contract. Assumes nothing.
use Rattle.cart_files.proofs.Putting.{words-stored}
use Rattle.cart_files.proofs.gathering.put_words.Goals as goal

pub returns : goal.returns
returns c =
    words-stored c.args.opening.now c.args.period.now c.requires.0 c.requires.1 c.to_le_bytes.ensures c.to_le_bytes-2.ensures
    c.put_literal-led.ensures c.put_literal-headed.ensures c.put_literal-opened.ensures c.put_literal.ensures
