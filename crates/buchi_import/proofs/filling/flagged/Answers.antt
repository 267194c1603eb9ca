-- `buchi_import::filling::flagged` meets its contract. Assumes nothing.
use mathlib.Core.Path.{ap, sym}
use mathlib.Core.Bool.{Bool, cond}
use borrow.Author.Tests.{eq-eqb, ne_eqb}
use Rattle.buchi_import.proofs.filling.flagged.Goals as goal

pub returns-then-finals-r-eq1 : goal.returns-then-finals-r-eq1
returns-then-finals-r-eq1 c = sym (ap (λ (t : Bool). cond t 1 c.args.b) (eq-eqb _ 1 c.if-finals-r-eq1.true))

pub returns-else-finals-r-eq1 : goal.returns-else-finals-r-eq1
returns-else-finals-r-eq1 c = sym (ap (λ (t : Bool). cond t 1 c.args.b) (ne_eqb _ 1 c.if-finals-r-eq1.false))
