-- `verdict::answering::put_answer` meets its contract. Assumes nothing.
use mathlib.Core.Path.{ap}
use Rattle.console.proofs.Printed.{shows-as}
use Rattle.verdict.specs.Text.{verdict_text_of}
use Rattle.verdict.specs.Said.{said_of, sheet_file, show_file}
use Rattle.verdict.proofs.answering.put_answer.Goals as goal

pub returns : goal.returns
returns c = (
  shows-as (ap verdict_text_of c.judge_files-answer.ensures) c.verdict_text-text.ensures,
  shows-as (ap (said_of c.args.explain (sheet_file c.args.any c.args.one.now c.args.sheet.now) (show_file c.args.two.now c.args.show.now)) c.judge_files-answer.ensures) c.put_message-words.ensures,
)
