-- `lasso_text::reading::read_words` meets its contract. Assumes nothing.
use Rattle.slices.proofs.Refusals.{handed}
use mathlib.Core.Path.{◌≡◌, ap, ◌∙◌}
use Prim.Native.Nat.{ℕ}
use native.Mathlib.Omega.{arith}
use Rattle.format.specs.declared.Column.{Column}
use Rattle.format.specs.Lines.{lines_at}
use Rattle.lasso_text.specs.Text.{prefix_name, period_name}
use Rattle.lasso_text.specs.Reading.{letter, ended, opened}
use Rattle.lasso_text.proofs.Onward.{title-refused, title-read, prefix-refused, prefix-read, words-refused, words-read}
use Rattle.lasso_text.proofs.reading.read_words.Goals as goal

pub read_lines-requires : goal.read_lines-requires
read_lines-requires c = ((title-read 32 c.args.part c.args.text.now c.read_literal.ensures c.in_ok-at.was).1, omega arith, omega (arith, ap (λ (x : Column). x.limit) c.letter.ensures))

pub read_period-requires : goal.read_period-requires
read_period-requires c = (prefix-read 32 _ _ _ (rw c.letter.ensures at c.read_lines.ensures) (title-read 32 c.args.part c.args.text.now c.read_literal.ensures c.in_ok-at.was).1 c.in_ok-lines.was).4

pub returns-in_err-at : goal.returns-in_err-at
returns-in_err-at c = rw (handed c.from_residual.ensures)
    (words-refused (title-refused 32 c.args.part c.args.text.now c.read_literal.ensures c.in_err-at.was) (omega arith) (omega arith))

pub returns-in_err-lines : goal.returns-in_err-lines
returns-in_err-lines c = rw (handed c.from_residual-in_err-lines.ensures)
    (words-refused ((title-read 32 c.args.part c.args.text.now c.read_literal.ensures c.in_ok-at.was).0 ∙ prefix-refused 32 _ _ _ (rw c.letter.ensures at c.read_lines.ensures) c.in_err-lines.was) (rw c.letter.ensures at c.read_lines.ensures).same (omega arith))

pub returns : goal.returns
returns c =
    let part = c.args.part in
    let t = c.args.text.now in
    let w = (prefix-read 32 _ _ _ (rw c.letter.ensures at c.read_lines.ensures) (title-read 32 c.args.part c.args.text.now c.read_literal.ensures c.in_ok-at.was).1 c.in_ok-lines.was) in
    let at : opened 32 part t (lines_at part t prefix_name (letter 32) c.in_ok-at.at) ≡ ended part t w.0.values (lines_at part t period_name (letter 32) c.in_ok-lines.lines.next)
    = ap (opened 32 part t) w.1 ∙ ap (λ (n : ℕ). ended part t w.0.values (lines_at part t period_name (letter 32) n)) w.3 in
    words-read part t w.0 ((title-read 32 c.args.part c.args.text.now c.read_literal.ensures c.in_ok-at.was).0 ∙ at) w.1 (rw c.letter.ensures at c.read_lines.ensures) w.2 c.read_period.ensures
