-- The loops of `buchi_import::filling::put_sizes`.
use Prim.Native.Nat.{◌*◌}
use Rattle.slices.specs.Tables.{tab}
use Rattle.numbers.specs.Storing.{Stored}
use Rattle.buchi_import.proofs.filling.put_sizes.Given as goal

abbrev pub invariant-loop : goal.invariant-loop
invariant-loop l = Stored l.initial.out l.at (tab l.counter (λ r. 2 * l.n)) l.out l.w
