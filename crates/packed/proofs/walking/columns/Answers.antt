-- `packed::walking::columns` meets its contract: cell after cell. Assumes nothing.
use Prim.Native.Nat.{ℕ, ◌*◌}
use native.Mathlib.Omega.{arith}
use lib.ListN.{replicate, length-replicate}
use Rattle.packed.specs.Columns.{columns_of}
use Rattle.packed.proofs.Front.{front-none, front-more, front-all}
use Rattle.packed.proofs.walking.columns.Goals as goal

pub loop-i-init : goal.loop-i-init
loop-i-init c = front-none (32 * c.args.letters) _ (replicate 1024 0) (omega (arith, c.requires.1, length-replicate {A = ℕ} 1024 0))

pub loop-i-preserved : goal.loop-i-preserved
loop-i-preserved c = front-more (replicate 1024 0) _ c.loop-i.invariant (omega (arith, c.loop-i-test.true)) c.cell.ensures

pub returns : goal.returns
unfolding columns_of
returns c = front-all (replicate 1024 0) c.loop-i.invariant (omega arith)
