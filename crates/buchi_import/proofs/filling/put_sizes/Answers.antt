-- `buchi_import::filling::put_sizes` meets its contract. Assumes nothing.
use Prim.Native.Nat.{◌*◌}
use native.Mathlib.Omega.{arith}
use Rattle.slices.proofs.Tables.{length-tab}
use Rattle.numbers.proofs.Stores.{stored-none-tab, stored-entry}
use Rattle.buchi_import.proofs.filling.put_sizes.Goals as goal

pub loop-init : goal.loop-init
loop-init c = stored-none-tab _ _ _

pub put-w-requires : goal.put-w-requires
put-w-requires c = omega (arith, length-tab c.loop.counter (λ r. 2 * c.args.n))

pub loop-preserved : goal.loop-preserved
loop-preserved c = stored-entry c.loop.counter (λ r. 2 * c.args.n) c.loop.invariant c.put-w.ensures
