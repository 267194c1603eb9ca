-- `cart::saying::opening_lines` meets its contract. Assumes nothing.
use Rattle.cart.proofs.Spoken.{few-lines, all_lines}
use Rattle.cart.proofs.saying.opening_lines.Goals as goal

pub returns-then-scene-lt-SCENES : goal.returns-then-scene-lt-SCENES
returns-then-scene-lt-SCENES c = few-lines c.args.scene c.if-scene-lt-SCENES.true

pub returns : goal.returns
returns c = all_lines c.args.scene c.if-scene-lt-SCENES.false
