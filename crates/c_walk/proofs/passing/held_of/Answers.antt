-- `c_walk::passing::held_of` meets its contract. Assumes nothing.
use mathlib.Core.Path.{ap, sym}
use mathlib.Core.Bool.{Bool, cond}
use borrow.Author.Tests.{eq-eqb, ne_eqb}
use Rattle.fdfa.specs.Pass.{reached, unknown}
use Rattle.c_walk.proofs.passing.held_of.Goals as goal

pub returns-then-failed-eq0 : goal.returns-then-failed-eq0
returns-then-failed-eq0 c =
    ap (λ (t : Bool). cond t (reached c.args.state c.args.position) (unknown c.args.position)) (sym (eq-eqb c.args.failed 0 c.if-failed-eq0.true))

pub returns : goal.returns
returns c =
    ap (λ (t : Bool). cond t (reached c.args.state c.args.position) (unknown c.args.position)) (sym (ne_eqb c.args.failed 0 c.if-failed-eq0.false))
