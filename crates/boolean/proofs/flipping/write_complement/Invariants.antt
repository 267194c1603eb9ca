-- The loops of `boolean::flipping::write_complement`.
use mathlib.Core.Path.{◌≡◌}
use Rattle.slices.proofs.Filling.{Begun}
use Rattle.packed.specs.Layout.{progress_at_value}
use Rattle.boolean.proofs.Flips.{done}
use Rattle.boolean.proofs.flipping.write_complement.Given as goal

abbrev pub invariant-loop-q : goal.invariant-loop-q
invariant-loop-q l = (l.at ≡ progress_at_value l.sheet l.q) × Begun (done l.sheet l.q) l.initial.out l.out
