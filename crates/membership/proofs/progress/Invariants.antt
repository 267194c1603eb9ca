-- The loops of `membership::progress`.
use mathlib.Core.Path.{◌≡◌}
use Rattle.fdfa.specs.Words.{power}
use Rattle.fdfa.specs.Family.{walk}
use Rattle.packed.specs.Layout.{decode}
use Rattle.membership.proofs.progress.Given as goal

abbrev pub invariant-loop : goal.invariant-loop
invariant-loop l = l.end ≡ walk ((decode l.sheet).progress l.q) 0 (power l.period l.counter)
