-- `wording::words::refusal_words` meets its contract. Assumes nothing.
use Rattle.wording.proofs.Worded.{words-shown}
use Rattle.wording.proofs.words.refusal_words.Goals as goal

pub returns : goal.returns
returns c =
    words-shown c.args.program.now (record { name = c.args.one.now; held = c.args.first.now; lined = c.args.lined }) (record { name = c.args.two.now; held = c.args.second.now; lined = c.args.lined2 }) c.args.r c.requires.3 c.put_culprit-at.ensures c.put_reason.ensures
