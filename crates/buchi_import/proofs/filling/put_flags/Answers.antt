-- `buchi_import::filling::put_flags` meets its contract. Assumes nothing.
use mathlib.Core.Path.{sym}
use mathlib.Core.List.{[], ◌∷◌}
use Prim.Native.Nat.{ℕ, ◌%◌}
use native.Mathlib.Omega.{arith}
use Rattle.slices.proofs.Tables.{length-tab}
use Rattle.fdfa.specs.Buchi.{pair_flag}
use Rattle.packed.specs.Layout.{mark}
use Rattle.packed.proofs.Packing.{mark-byte}
use Rattle.numbers.proofs.Stores.{stored-none-tab, stored-entry, stored-as}
use Rattle.buchi_import.proofs.filling.put_flags.Goals as goal

abbrev flags : ℕ → ℕ
flags p = mark (pair_flag p)

pub loop-pair-init : goal.loop-pair-init
loop-pair-init c = stored-none-tab _ _ _

pub put-w-requires : goal.put-w-requires
put-w-requires c = omega (arith, length-tab c.loop-pair.pair flags)

pub loop-pair-preserved : goal.loop-pair-preserved
loop-pair-preserved c =
    let p = c.loop-pair.pair in
    stored-entry p flags c.loop-pair.invariant (stored-as (λ k. sym (mark-byte (p % 2) (omega arith)) k ∷ []) c.put-w.ensures)
