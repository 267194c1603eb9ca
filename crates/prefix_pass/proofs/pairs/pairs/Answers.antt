-- `prefix_pass::pairs::pairs` meets its contract: cell after cell. Assumes nothing.
use native.Mathlib.Omega.{arith}
use Prim.Native.Nat.{ℕ, ◌*◌, ◌≤◌}
use lib.ListN.{length, replicate, length-replicate}
use lib.Seq.{length-take-le}
use Rattle.packed.proofs.Front.{front-none, front-more, front-all}
use Rattle.prefix_pass.specs.Doubled.{pairs_of}
use Rattle.prefix_pass.proofs.pairs.pairs.Goals as goal

room : (s : ℕ) → s ≤ 32 → 1024 * s ≤ length (replicate {A = ℕ} 32768 0)
room s h = simp length-replicate (omega arith)

pub loop-i-init : goal.loop-i-init
loop-i-init c = front-none _ _ _ (room _ c.requires.few_letters)

pub loop-i-preserved : goal.loop-i-preserved
loop-i-preserved c = front-more _ _ c.loop-i.invariant (omega arith) c.cell.ensures

pub returns : goal.returns
unfolding pairs_of
returns c = front-all _ c.loop-i.invariant (omega (arith, length-take-le (1024 * c.args.letters) (replicate {A = ℕ} 32768 0) (room _ c.requires.few_letters)))
