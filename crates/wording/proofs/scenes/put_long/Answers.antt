-- `wording::scenes::put_long` meets its contract. Assumes nothing.
use Rattle.wording.proofs.SceneLines.{long-opening, long-loop}
use Rattle.wording.proofs.scenes.put_long.Goals as goal

pub returns-then-show_part-eq1 : goal.returns-then-show_part-eq1
returns-then-show_part-eq1 c =
    long-opening c.args.name.now c.args.r c.show_part.ensures c.requires.0 c.requires.1 c.put_literal-named.ensures c.if-show_part-eq1.true c.put_literal.ensures

pub returns : goal.returns
returns c =
    long-loop c.args.name.now c.args.r c.show_part.ensures c.requires.0 c.requires.1 c.put_literal-named.ensures c.if-show_part-eq1.false c.put_literal-2.ensures
