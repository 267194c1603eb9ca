-- `blocks::writing::put_counts` meets its contract. Assumes nothing.
use native.Mathlib.Omega.{arith}
use Rattle.blocks.proofs.Lengths.{line-counts}
use Rattle.blocks.proofs.writing.put_counts.Goals as goal

pub put_row-requires : goal.put_row-requires
put_row-requires c =
    omega (
      arith,
      c.put_literal-p.ensures.next,
      line-counts c.args.level c.args.s c.args.n (omega (arith, c.requires)) (omega (arith, c.requires)) (omega (arith, c.requires)),
    )
