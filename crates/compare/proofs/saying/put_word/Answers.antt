-- `compare::saying::put_word` meets its contract. Assumes nothing.
use Rattle.compare.proofs.Spoken.{none-stored, some_stored}
use Rattle.compare.proofs.saying.put_word.Goals as goal

pub returns-then-word-eq0 : goal.returns-then-word-eq0
returns-then-word-eq0 c =
    none-stored c.args.name.now c.args.word.now c.requires.0 c.if-word-eq0.true c.put_literal-named.ensures c.put_literal.ensures

pub returns : goal.returns
returns c =
    some_stored c.args.name.now c.args.word.now c.requires.0 c.if-word-eq0.false c.put_literal-named.ensures c.put_scenes.ensures
