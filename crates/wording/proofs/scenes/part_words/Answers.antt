-- `wording::scenes::part_words` meets its contract. Assumes nothing.
use mathlib.Core.Path.{sym, ◌∙◌}
use mathlib.Core.Bool.{true}
use Rattle.wording.proofs.SceneLines.{long-shown, part-shown}
use Rattle.wording.proofs.scenes.part_words.Goals as goal

pub returns-then-is_long : goal.returns-then-is_long
returns-then-is_long c =
    long-shown c.args.program.now (record { name = c.args.one.now; held = c.args.first.now; lined = c.args.lined }) (record { name = c.args.two.now; held = c.args.show.now; lined = true }) c.args.r (sym c.is_long.ensures ∙ c.if-is_long.true) c.put_long.ensures

pub returns : goal.returns
returns c =
    part-shown c.args.program.now (record { name = c.args.one.now; held = c.args.first.now; lined = c.args.lined }) (record { name = c.args.two.now; held = c.args.show.now; lined = true }) c.args.r (sym c.is_long.ensures ∙ c.if-is_long.false) c.refusal_words.ensures
