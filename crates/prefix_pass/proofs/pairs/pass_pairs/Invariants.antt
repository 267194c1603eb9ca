-- The loops of `prefix_pass::pairs::pass_pairs`.
use mathlib.Core.Path.{◌≡◌}
use Prim.Native.Nat.{ℕ, ◌+◌, ◌*◌, ◌<◌}
use lib.ListN.{take}
use Rattle.fdfa.specs.Pass.{reached, pass_over}
use Rattle.packed.specs.Columns.{column_step}
use Rattle.prefix_pass.proofs.pairs.pass_pairs.Given as goal

abbrev pub invariant-loop-i : goal.invariant-loop-i
invariant-loop-i l = (l.q < 32) × ((n : ℕ) → pass_over l.letters (column_step l.table) (reached l.state n) (take (2 * l.i) l.part) ≡ reached l.q (n + 2 * l.i))
