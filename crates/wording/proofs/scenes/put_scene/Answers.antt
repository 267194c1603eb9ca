-- `wording::scenes::put_scene` meets its contract. Assumes nothing.
use Rattle.wording.proofs.SceneLines.{scene-stored}
use Rattle.wording.proofs.scenes.put_scene.Goals as goal

pub returns : goal.returns
returns c = scene-stored c.args.name.now c.args.q c.requires c.put_literal-named.ensures c.put_line.ensures
