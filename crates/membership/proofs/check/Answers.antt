-- `membership::check` meets its contract: the prefix in one pass, then the period. Assumes nothing.
use Rattle.std.specs.Prelude.{Ok, Err}
use mathlib.Core.Path.{◌≡◌, ap, sym, subst, ◌∙◌}
use mathlib.Core.List.{List}
use Prim.Native.Nat.{ℕ}
use native.Mathlib.Omega.{arith}
use Rattle.slices.proofs.Refusals.{handed, refuses, gives}
use Rattle.fdfa.specs.Words.{Over}
use Rattle.fdfa.specs.Family.{walk}
use Rattle.fdfa.specs.Pass.{Pass, start, pass_over}
use Rattle.fdfa.proofs.Letters.{unknown-fault, known-fault}
use Rattle.packed.specs.Columns.{column_step}
use Rattle.prefix_pass.specs.declared.Held.{Held}
use Rattle.prefix_pass.specs.declared.Held.TheVariants as held
use Rattle.prefix_pass.specs.Parts.{pass_says, told}
use Rattle.prefix_pass.specs.Steps.{Within}
use Rattle.prefix_pass.proofs.Laws.{reached-known, unknown-here}
use Rattle.membership.proofs.check.Goals as goal

-- the pass from its start
pass : (t u : List ℕ) (s : ℕ) {p q : Pass} → p ≡ start → q ≡ told (pass_over s (column_step t) p u) → q ≡ told (pass_over s (column_step t) start u)
pass t u s e d = d ∙ ap (λ (p : Pass). told (pass_over s (column_step t) p u)) e

-- every letter of the prefix is known, and the state is the one after it
known : (t u : List ℕ) (s : ℕ) {q i : ℕ} {h : Held} → pass_says h ≡ told (pass_over s (column_step t) start u) → h ≡ held.Reached q i → Over s u × (q ≡ walk (column_step t) 0 u)
known t u s e d = let k = reached-known s (column_step t) u (sym e ∙ ap pass_says d) in (k.0, k.1)

pub pass_on-requires : goal.pass_on-requires
pass_on-requires c = (c.requires, subst (Within 32) (sym c.start.ensures) (omega arith))

pub returns-in-Unknown : goal.returns-in-Unknown
returns-in-Unknown c =
    let p = pass c.args.table.now c.args.prefix.now c.args.letters c.start.ensures c.pass_on.ensures in
    ap Err c.refuse.ensures ∙ refuses _ (unknown-fault _ _ _ _ (unknown-here _ _ _ (omega arith) (sym p ∙ ap pass_says c.in-Unknown.is)))

pub returns-in_err-check_period-in-Reached : goal.returns-in_err-check_period-in-Reached
returns-in_err-check_period-in-Reached c =
    let p = pass c.args.table.now c.args.prefix.now c.args.letters c.start.ensures c.pass_on.ensures in
    let k = known c.args.table.now c.args.prefix.now c.args.letters p c.in-Reached.is in
    rw (handed c.from_residual.ensures) (refuses _ (known-fault _ _ _ k.0 ∙ sym c.in_err-check_period-in-Reached.ensures))

pub returns-in_ok-check_period-in-Reached : goal.returns-in_ok-check_period-in-Reached
returns-in_ok-check_period-in-Reached c =
    let p = pass c.args.table.now c.args.prefix.now c.args.letters c.start.ensures c.pass_on.ensures in
    let k = known c.args.table.now c.args.prefix.now c.args.letters p c.in-Reached.is in
    ap Ok k.1 ∙ gives _ (known-fault _ _ _ k.0 ∙ sym c.in_ok-check_period-in-Reached.ensures)
