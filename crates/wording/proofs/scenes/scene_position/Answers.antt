-- `wording::scenes::scene_position` meets its contract. Assumes nothing.
use native.Mathlib.Omega.{arith}
use Rattle.wording.proofs.SceneLines.{scene-within, in_opening, in-loop}
use Rattle.wording.proofs.scenes.scene_position.Goals as goal

pub overflow_add-result : goal.overflow_add-result
overflow_add-result c = omega (arith, scene-within c.args.r c.requires.1)

pub returns-then-show_part-eq1 : goal.returns-then-show_part-eq1
returns-then-show_part-eq1 c = in_opening c.args.openings c.args.r c.show_part.ensures c.if-show_part-eq1.true

pub overflow_add-result-2 : goal.overflow_add-result-2
overflow_add-result-2 c = omega (arith, c.requires.0, scene-within c.args.r c.requires.1)

pub overflow_add-result-3 : goal.overflow_add-result-3
overflow_add-result-3 c = omega (arith, c.requires.0, scene-within c.args.r c.requires.1)

pub returns : goal.returns
returns c = in-loop c.args.openings c.args.r c.show_part.ensures c.if-show_part-eq1.false
