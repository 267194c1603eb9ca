-- The loops of `blocks::filling::row_count`.
use mathlib.Core.Path.{◌≡◌}
use Rattle.slices.specs.Tables.{sum}
use Rattle.blocks.specs.Text.{size_in}
use Rattle.blocks.proofs.filling.row_count.Given as goal

abbrev pub invariant-loop-q : goal.invariant-loop-q
invariant-loop-q l = (l.count ≡ sum l.q (size_in l.front))
