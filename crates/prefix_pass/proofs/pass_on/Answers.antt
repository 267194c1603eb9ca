-- `prefix_pass::pass_on` meets its contract: a pass that has failed stays so. Assumes nothing.
use mathlib.Core.Path.{◌≡◌, ap, sym, subst, ◌∙◌}
use mathlib.Core.List.{List}
use Prim.Native.Nat.{ℕ, ◌≤◌}
use native.Mathlib.Omega.{arith}
use Rattle.slices.proofs.Capped.{capped_is}
use Rattle.fdfa.specs.Pass.{Pass, unknown, pass_over}
use Rattle.fdfa.proofs.Pass.{pass-failed}
use Rattle.packed.specs.Columns.{column_step}
use Rattle.prefix_pass.specs.declared.Held.{Held}
use Rattle.prefix_pass.specs.Parts.{pass_says, told}
use Rattle.prefix_pass.specs.Steps.{Within}
use Rattle.prefix_pass.proofs.pass_on.Goals as goal

-- the state that is held
below : (h : Held) {p : Pass} → Within 32 (pass_says h) → pass_says h ≡ p → Within 32 p
below h w e = subst (Within 32) e w

pub overflow_mul-letters : goal.overflow_mul-letters
overflow_mul-letters c = omega (arith, c.requires.0.few_letters)

pub pass-requires : goal.pass-requires
pass-requires c = (c.requires.0, below c.args.held c.requires.1 (ap pass_says c.in-Reached.is))

pub pass_long-requires : goal.pass_long-requires
pass_long-requires c = (c.requires.0, below c.args.held c.requires.1 (ap pass_says c.in-Reached.is))

-- what is said of the value that is held
says : (s : ℕ) (t w : List ℕ) {g h : Held} {r : Pass} → g ≡ h → r ≡ told (pass_over s (column_step t) (pass_says h) w) → r ≡ told (pass_over s (column_step t) (pass_says g) w)
says s t w e d = d ∙ sym (ap (λ (h : Held). told (pass_over s (column_step t) (pass_says h) w)) e)

stays : (s : ℕ) (t : List ℕ) (i : ℕ) (w : List ℕ) → i ≤ 18446744073709551615 → told (pass_over s (column_step t) (unknown i) w) ≡ unknown i
stays s t i w h = ap told (pass-failed s (column_step t) i w) ∙ ap unknown (capped_is i h)

pub returns-then-part-letters : goal.returns-then-part-letters
returns-then-part-letters c = says c.args.letters c.args.table.now c.args.part.now c.in-Reached.is c.pass.ensures

pub returns-in-Unknown : goal.returns-in-Unknown
returns-in-Unknown c =
    says c.args.letters c.args.table.now c.args.part.now c.in-Unknown.is
    (sym (stays c.args.letters c.args.table.now c.in-Unknown.at c.args.part.now (omega arith)))

pub returns-else-part-letters : goal.returns-else-part-letters
returns-else-part-letters c = says c.args.letters c.args.table.now c.args.part.now c.in-Reached.is c.pass_long.ensures
