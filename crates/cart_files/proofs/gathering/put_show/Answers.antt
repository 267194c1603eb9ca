-- `cart_files::gathering::put_show` meets its contract. Assumes nothing.
use mathlib.Core.Path.{refl}
use Rattle.lasso_text.proofs.Rooms.{read-filled}
use Rattle.cart_files.proofs.Putting.{show-read}
use Rattle.cart_files.proofs.gathering.put_show.Goals as goal

pub returns : goal.returns
returns c = let f = read-filled c.in_ok-lengths.ensures refl in show-read c.args.text.now f.0 f.3 f.4 c.put_words.ensures
