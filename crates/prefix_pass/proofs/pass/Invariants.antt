-- The loops of `prefix_pass::pass`.
use mathlib.Core.Path.{◌≡◌}
use Prim.Native.Nat.{◌+◌, ◌<◌}
use lib.ListN.{take}
use Rattle.fdfa.specs.Pass.{reached, pass_over}
use Rattle.packed.specs.Columns.{column_step}
use Rattle.prefix_pass.proofs.pass.Given as goal

abbrev pub invariant-loop-i : goal.invariant-loop-i
invariant-loop-i l = (l.q < 32) × (pass_over l.letters (column_step l.table) (reached l.state l.at) (take l.i l.part) ≡ reached l.q (l.at + l.i))
