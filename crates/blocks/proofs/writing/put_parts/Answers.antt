-- `blocks::writing::put_parts` meets its contract. Assumes nothing.
use native.Mathlib.Omega.{arith}
use Rattle.slices.proofs.Tables.{rows-within}
use Rattle.packed.specs.Layout.{decode}
use Rattle.numbers.proofs.Stores.{stored-none-rows, stored_row}
use Rattle.blocks.specs.Lines.{part_text}
use Rattle.blocks.proofs.writing.put_parts.Goals as goal

pub loop-q-init : goal.loop-q-init
loop-q-init c = stored-none-rows _ _ _

pub put_part-p-requires : goal.put_part-p-requires
put_part-p-requires c = (
  c.requires.0,
  c.requires.1,
  omega (arith, c.loop-q-test.true, c.requires.2),
  omega (arith, c.loop-q.invariant.next, rows-within c.args.n (part_text (decode c.args.sheet.now)) c.loop-q.q c.loop-q-test.true, c.requires.3),
)

pub loop-q-preserved : goal.loop-q-preserved
loop-q-preserved c =
    stored_row c.loop-q.q (part_text (decode c.args.sheet.now)) c.loop-q.invariant c.put_part-p.ensures
