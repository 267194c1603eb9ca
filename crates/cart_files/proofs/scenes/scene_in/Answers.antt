-- `cart_files::scenes::scene_in` meets its contract. Assumes nothing.
use Rattle.cart_files.proofs.Sought.{in_opening, in-loop}
use Rattle.cart_files.proofs.scenes.scene_in.Goals as goal

pub returns-then-place-period : goal.returns-then-place-period
returns-then-place-period c =
    in_opening c.args.show c.args.prefix c.args.period c.args.place c.if-place-period.true c.behind.ensures

pub returns : goal.returns
returns c = in-loop c.args.show c.args.prefix c.args.period c.args.place c.if-place-period.false
