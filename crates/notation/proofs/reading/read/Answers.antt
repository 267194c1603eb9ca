-- `notation::reading::read` meets its contract. Assumes nothing.
use Rattle.slices.proofs.Refusals.{handed}
use Prim.Native.Nat.{ℕ}
use native.Mathlib.Omega.{arith}
use lib.ListN.{length-replicate}
use Rattle.notation.proofs.Opening.{opened, unopened}
use Rattle.notation.proofs.reading.read.Goals as goal

pub read_on-requires : goal.read_on-requires
read_on-requires c =
    opened c.args.text.now c.read_blocks.ensures c.in_ok-e.was (omega (arith, length-replicate {A = ℕ} 1091 0)) (omega (arith, length-replicate {A = ℕ} 64 0))

pub returns-in_err-e : goal.returns-in_err-e
returns-in_err-e c = rw (handed c.from_residual.ensures)
    (unopened c.args.text.now c.read_blocks.ensures c.args.out.now c.args.seconds.now c.in_err-e.was)
