-- `wording::scenes::show_words` meets its contract. Assumes nothing.
use mathlib.Core.Path.{sym, ◌∙◌}
use mathlib.Core.Bool.{true}
use Rattle.wording.proofs.SceneLines.{scene-shown, other-shown}
use Rattle.wording.proofs.scenes.show_words.Goals as goal

pub scene_position-q-requires : goal.scene_position-q-requires
scene_position-q-requires c = (c.requires.3, sym c.is_scene.ensures ∙ c.if-is_scene.true)

pub returns-then-is_scene : goal.returns-then-is_scene
returns-then-is_scene c =
    scene-shown c.args.program.now (record { name = c.args.one.now; held = c.args.first.now; lined = c.args.lined }) (record { name = c.args.two.now; held = c.args.show.now; lined = true }) c.args.openings c.args.r (sym c.is_scene.ensures ∙ c.if-is_scene.true) c.scene_position-q.ensures c.requires.4 c.put_scene-at.ensures c.put_reason.ensures

pub returns : goal.returns
returns c =
    other-shown c.args.program.now (record { name = c.args.one.now; held = c.args.first.now; lined = c.args.lined }) (record { name = c.args.two.now; held = c.args.show.now; lined = true }) c.args.openings c.args.r (sym c.is_scene.ensures ∙ c.if-is_scene.false) c.part_words.ensures
