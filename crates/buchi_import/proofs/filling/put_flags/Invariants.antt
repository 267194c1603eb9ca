-- The loops of `buchi_import::filling::put_flags`.
use Prim.Native.Nat.{ℕ}
use Rattle.slices.specs.Tables.{tab}
use Rattle.fdfa.specs.Buchi.{pair_flag}
use Rattle.packed.specs.Layout.{mark}
use Rattle.numbers.specs.Storing.{Stored}
use Rattle.buchi_import.proofs.filling.put_flags.Given as goal

abbrev flags : ℕ → ℕ
flags p = mark (pair_flag p)

abbrev pub invariant-loop-pair : goal.invariant-loop-pair
invariant-loop-pair l = Stored l.initial.out l.at (tab l.pair flags) l.out l.w
