-- `lasso_text::reading::read_period` meets its contract. Assumes nothing.
use Rattle.slices.proofs.Refusals.{handed}
use mathlib.Core.Path.{ap}
use native.Mathlib.Omega.{arith}
use Rattle.format.specs.declared.Column.{Column}
use Rattle.lasso_text.proofs.Onward.{period-refused, period-read}
use Rattle.lasso_text.proofs.reading.read_period.Goals as goal

pub read_lines-requires : goal.read_lines-requires
read_lines-requires c = (c.requires, omega arith, omega (arith, ap (λ (x : Column). x.limit) c.letter.ensures))

pub returns-in_err-lines : goal.returns-in_err-lines
returns-in_err-lines c = rw (handed c.from_residual.ensures) (period-refused _ _ _ (rw c.letter.ensures at c.read_lines.ensures) c.in_err-lines.was)

pub returns : goal.returns
returns c = period-read _ _ _ (rw c.letter.ensures at c.read_lines.ensures) c.in_ok-lines.was c.ended.ensures
