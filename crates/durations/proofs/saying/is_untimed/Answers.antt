-- `durations::saying::is_untimed` meets its contract. Assumes nothing.
use mathlib.Core.Path.{sym, ◌∙◌}
use Rattle.durations.proofs.Spoken.{no-scene, by_count}
use Rattle.durations.proofs.saying.is_untimed.Goals as goal

pub returns-then-not-is_scene : goal.returns-then-not-is_scene
returns-then-not-is_scene c = no-scene c.args.text.now c.args.r (sym c.is_scene.ensures ∙ c.if-not-is_scene.true)

pub returns : goal.returns
returns c =
    by_count c.args.text.now c.args.r (sym c.is_scene.ensures ∙ c.if-not-is_scene.false) c.count_cells.ensures
