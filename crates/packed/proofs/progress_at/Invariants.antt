-- The loops of `packed::progress_at`.
use mathlib.Core.Path.{◌≡◌}
use Rattle.packed.specs.Layout.{progress_at_value}
use Rattle.packed.proofs.progress_at.Given as goal

abbrev pub invariant-loop-r : goal.invariant-loop-r
invariant-loop-r l = l.at ≡ progress_at_value l.sheet l.r
