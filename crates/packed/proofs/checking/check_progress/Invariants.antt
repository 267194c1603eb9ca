-- The loops of `packed::checking::check_progress`.
use mathlib.Core.Path.{◌≡◌}
use Prim.Native.Nat.{◌-◌}
use Rattle.packed.specs.Layout.{progress_at_value}
use Rattle.packed.specs.Faults.{progress_fault}
use Rattle.packed.proofs.checking.check_progress.Given as goal

abbrev pub invariant-loop-q : goal.invariant-loop-q
invariant-loop-q l = (l.at ≡ progress_at_value l.sheet l.q) × (progress_fault l.part l.sheet 0 l.n ≡ progress_fault l.part l.sheet l.q (l.n - l.q))
