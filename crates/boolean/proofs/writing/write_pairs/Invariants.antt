-- The loops of `boolean::writing::write_pairs`.
use Prim.Native.Nat.{◌*◌, ◌/◌, ◌%◌}
use Rattle.slices.proofs.Filling.{RowFilling}
use Rattle.packed.specs.Layout.{state_count}
use Rattle.boolean.specs.Pieces.{pair_part}
use Rattle.boolean.proofs.writing.write_pairs.Given as goal

abbrev pub invariant-loop-x : goal.invariant-loop-x
invariant-loop-x l = RowFilling (state_count l.first * state_count l.second) (λ x. pair_part l.op l.first l.second (x / state_count l.second) (x % state_count l.second)) l.initial.out l.out l.at l.x
