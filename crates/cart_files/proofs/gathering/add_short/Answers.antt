-- `cart_files::gathering::add_short` meets its contract. Assumes nothing.
use Rattle.cart_files.proofs.Adding.{refused-some, adds_same}
use Rattle.cart_files.proofs.gathering.add_short.Goals as goal

pub returns-in-Text : goal.returns-in-Text
returns-in-Text c = adds_same c.args.text.now c.requires.1 c.requires.2 c.requires.3 (refused-some c.in-Text.is) c.counted.ensures
