-- `sheet_forms::form_in` meets its contract. Assumes nothing.
use mathlib.Core.Bool.{true}
use Rattle.sheet_forms.proofs.Answers.{form-as}
use Rattle.sheet_forms.proofs.form_in.Goals as goal

pub returns-then-any : goal.returns-then-any
returns-then-any c = form-as c.args.bytes.now true c.if-any.true c.form_of.ensures
