-- `durations::saying::put_untimed` meets its contract. Assumes nothing.
use Rattle.durations.proofs.Spoken.{untimed-shown}
use Rattle.durations.proofs.saying.put_untimed.Goals as goal

pub returns : goal.returns
returns c =
    untimed-shown c.args.one.now c.args.two.now c.args.q c.requires.0 c.requires.2 c.put_scene-spotted.ensures c.put_literal-refused.ensures c.put_literal-named.ensures c.put_literal.ensures
