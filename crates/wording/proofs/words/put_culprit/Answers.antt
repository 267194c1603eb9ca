-- `wording::words::put_culprit` meets its contract. Assumes nothing.
use Rattle.wording.proofs.Worded.{named-first, named-second, named-program}
use Rattle.wording.proofs.words.put_culprit.Goals as goal

pub returns-then-file-eq1 : goal.returns-then-file-eq1
returns-then-file-eq1 c =
    named-first c.args.program.now (record { name = c.args.one.now; held = c.args.first.now; lined = c.args.lined }) (record { name = c.args.two.now; held = c.args.second.now; lined = c.args.lined2 }) c.args.r c.file_of-file.ensures c.if-file-eq1.true c.put_spot.ensures

pub returns-then-file-eq2 : goal.returns-then-file-eq2
returns-then-file-eq2 c =
    named-second c.args.program.now (record { name = c.args.one.now; held = c.args.first.now; lined = c.args.lined }) (record { name = c.args.two.now; held = c.args.second.now; lined = c.args.lined2 }) c.args.r c.file_of-file.ensures c.if-file-eq2.true c.put_spot-then-file-eq2.ensures

pub returns : goal.returns
returns c =
    named-program c.args.program.now (record { name = c.args.one.now; held = c.args.first.now; lined = c.args.lined }) (record { name = c.args.two.now; held = c.args.second.now; lined = c.args.lined2 }) c.args.r c.file_of-file.ensures c.if-file-eq1.false c.if-file-eq2.false c.put_program.ensures
