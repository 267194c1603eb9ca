-- The loops of `packed::walking::columns`.
use Prim.Native.Nat.{◌*◌}
use Rattle.slices.proofs.Filling.{Filling}
use Rattle.packed.specs.Columns.{column_cell}
use Rattle.packed.proofs.walking.columns.Given as goal

abbrev pub invariant-loop-i : goal.invariant-loop-i
invariant-loop-i l = Filling (32 * l.letters) (column_cell l.sheet l.at l.letters l.states) l.initial.entry-items l.entry-items l.i
