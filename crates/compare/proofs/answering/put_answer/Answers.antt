-- `compare::answering::put_answer` meets its contract. Assumes nothing.
use native.Mathlib.Omega.{arith}
use Rattle.console.proofs.Printed.{shows-as}
use Rattle.compare_files.specs.Decided.{decided}
use Rattle.compare.specs.Said.{file_in}
use Rattle.compare.proofs.Answers.{lies, printed-is, said-is}
use Rattle.compare.proofs.answering.put_answer.Goals as goal

pub comparison_text-text-requires : goal.comparison_text-text-requires
comparison_text-text-requires c =
    (lies (decided c.args.any c.args.first.now c.args.second.now) _ _ c.decide-answer.result c.decide-answer.ensures, omega (arith, c.decide-answer.auto), omega (arith, c.decide-answer.auto), c.requires.2)

pub put_message-words-requires : goal.put_message-words-requires
put_message-words-requires c =
    (lies (decided c.args.any c.args.first.now c.args.second.now) _ _ c.decide-answer.result c.decide-answer.ensures, omega (arith, c.decide-answer.auto), omega (arith, c.decide-answer.auto), c.requires.0, c.requires.1, c.requires.3)

pub returns : goal.returns
returns c =
    let x = decided c.args.any c.args.first.now c.args.second.now in (
      shows-as (printed-is x _ _ c.decide-answer.result c.decide-answer.ensures) c.comparison_text-text.ensures,
      shows-as (said-is c.args.explain (file_in c.args.any c.args.one.now c.args.first.now) (file_in c.args.any c.args.two.now c.args.second.now) x _ _ c.decide-answer.result c.decide-answer.ensures) c.put_message-words.ensures,
    )
