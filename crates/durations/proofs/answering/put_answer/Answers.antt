-- `durations::answering::put_answer` meets its contract. Assumes nothing.
use native.Mathlib.Omega.{arith}
use Rattle.durations_files.specs.Decided.{decided}
use Rattle.durations.specs.Said.{text_file}
use Rattle.durations.proofs.Answers.{given-shown, given-unsaid, refused-shown, refused-said}
use Rattle.durations.proofs.answering.put_answer.Goals as goal

pub returns-in-Ok : goal.returns-in-Ok
returns-in-Ok c =
    let x = decided c.args.text.now c.args.show.now in (
      given-shown x c.write_files.ensures c.in-Ok.is (omega arith),
      given-unsaid x c.write_files.ensures (text_file c.args.one.now c.args.text.now) (text_file c.args.two.now c.args.show.now) c.args.said.now c.in-Ok.is,
    )

pub returns-in-Err : goal.returns-in-Err
returns-in-Err c =
    let x = decided c.args.text.now c.args.show.now in (
      refused-shown x c.write_files.ensures c.in-Err.is c.refusal_text.ensures,
      refused-said x c.write_files.ensures (text_file c.args.one.now c.args.text.now) (text_file c.args.two.now c.args.show.now) c.in-Err.is c.put_refusal.ensures,
    )
