-- The loops of `prefix_pass::pairs::pairs`.
use Prim.Native.Nat.{◌*◌}
use Rattle.slices.proofs.Filling.{Filling}
use Rattle.prefix_pass.specs.Doubled.{pair_cell}
use Rattle.prefix_pass.proofs.pairs.pairs.Given as goal

abbrev pub invariant-loop-i : goal.invariant-loop-i
invariant-loop-i l = Filling (1024 * l.letters) (pair_cell l.table l.letters) l.initial.entry-items l.entry-items l.i
