-- `verdict::saying::put_judged` meets its contract. Assumes nothing.
use Rattle.membership.specs.Verdict.{judged}
use Rattle.verdict.proofs.Spoken.{unasked-shown, asked-shown}
use Rattle.verdict.proofs.saying.put_judged.Goals as goal

pub returns-then-not-explain : goal.returns-then-not-explain
returns-then-not-explain c =
    unasked-shown c.args.explain c.args.name.now (judged c.args.judgement) c.args.out.now c.if-not-explain.true

pub returns : goal.returns
returns c =
    asked-shown c.args.explain c.args.name.now (judged c.args.judgement) c.if-not-explain.false c.requires.1 c.put_wait-at.ensures c.put_end.ensures
