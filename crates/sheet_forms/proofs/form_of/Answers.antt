-- `sheet_forms::form_of` meets its contract. Assumes nothing.
use Rattle.sheet_forms.proofs.Answers.{form-none, form-text, form-drawn, form-packed}
use native.Mathlib.Omega.{arith}
use Rattle.sheet_forms.proofs.form_of.Goals as goal

pub returns-then-bytes-eq0 : goal.returns-then-bytes-eq0
returns-then-bytes-eq0 c = form-none _ c.if-bytes-eq0.true

pub returns-in-108 : goal.returns-in-108
returns-in-108 c = form-text _ c.in-108.is

pub returns-in-91 : goal.returns-in-91
returns-in-91 c = form-drawn _ c.in-91.is

pub returns-in_default : goal.returns-in_default
returns-in_default c = form-packed _ (λ e. omega arith) (λ e. omega arith)
