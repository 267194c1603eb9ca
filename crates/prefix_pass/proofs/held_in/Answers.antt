-- `prefix_pass::held_in` meets its contract. Assumes nothing.
use mathlib.Core.Path.{ap, sym, ◌∙◌}
use mathlib.Core.Bool.{Bool, cond}
use borrow.Author.Tests.{lt-ltb, le-ltb}
use Rattle.fdfa.specs.Pass.{reached, unknown}
use Rattle.prefix_pass.specs.declared.Held.{Held}
use Rattle.prefix_pass.specs.Parts.{pass_says, held_in_value}
use Rattle.prefix_pass.proofs.held_in.Goals as goal

pub returns-then-states-state : goal.returns-then-states-state
returns-then-states-state c =
    let n = c.args.states in
    sym
    (ap (λ (h : Held). held_in_value n (pass_says h)) c.in-Reached.is
    ∙ ap (λ (t : Bool). cond t (reached c.in-Reached.state c.in-Reached.at) (unknown c.in-Reached.at)) (le-ltb _ n c.if-states-state.true))

pub returns-in-Unknown : goal.returns-in-Unknown
returns-in-Unknown c = sym (ap (λ (h : Held). held_in_value c.args.states (pass_says h)) c.in-Unknown.is)

pub returns-else-states-state : goal.returns-else-states-state
returns-else-states-state c =
    let n = c.args.states in
    sym
    (ap (λ (h : Held). held_in_value n (pass_says h)) c.in-Reached.is
    ∙ ap (λ (t : Bool). cond t (reached c.in-Reached.state c.in-Reached.at) (unknown c.in-Reached.at)) (lt-ltb _ n c.if-states-state.false))
