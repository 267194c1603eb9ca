-- `verdict_files::read_and_judge` meets its contract. Assumes nothing.
use Rattle.slices.proofs.Refusals.{handed}
use mathlib.Core.Path.{sym, ◌∙◌}
use Rattle.lasso_text.proofs.Rooms.{read-refused, read-filled}
use Rattle.verdict_files.proofs.Files.{text-refused, text-judged}
use Rattle.verdict_files.proofs.read_and_judge.Goals as goal

pub returns-in_err-lengths : goal.returns-in_err-lengths
returns-in_err-lengths c =
    rw (handed c.from_residual.ensures)
    (sym (text-refused c.args.sheet.now c.args.show.now _ _ c.requires (read-refused c.read.ensures c.in_err-lengths.was)))

pub returns : goal.returns
returns c =
    let f = read-filled c.read.ensures c.in_ok-lengths.was in
    c.verdict.ensures ∙ text-judged c.args.sheet.now c.args.show.now _ _ f.0 f.3 f.4
