-- `compare::saying::put_missing` meets its contract. Assumes nothing.
use Rattle.compare.proofs.Spoken.{missing-stored}
use Rattle.compare.proofs.saying.put_missing.Goals as goal

pub returns : goal.returns
returns c =
    missing-stored c.args.one.now c.args.two.now c.args.z c.args.opening.now c.args.period.now c.put_names-named.ensures c.put_word-opened.ensures c.put_word-looped.ensures c.put_stand-stood.ensures c.put_stand.ensures
