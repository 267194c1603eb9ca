-- `format::writing::put_row` meets its contract. Assumes nothing.
use mathlib.Core.Path.{ap}
use native.Mathlib.Omega.{arith}
use lib.ListN.{length}
use Rattle.slices.proofs.Tables.{rows-within}
use Rattle.numbers.specs.Digits.{field}
use Rattle.numbers.proofs.Stores.{stored-none-rows, stored_row, stored-as}
use Rattle.format.proofs.writing.put_row.Invariants.{fields}
use Rattle.format.proofs.writing.put_row.Goals as goal

pub loop-i-init : goal.loop-i-init
loop-i-init c = stored-none-rows _ _ _

pub put_field-p-requires : goal.put_field-p-requires
put_field-p-requires c =
    let v = c.args.values.now in
    let i = c.loop-i in
    omega (arith, ap length (λ k. field (c.from.ensures k) (c.separator.ensures k)), i.invariant.next, rows-within (length v) (fields v) i.i (omega arith), c.requires)

pub loop-i-preserved : goal.loop-i-preserved
loop-i-preserved c =
    let v = c.args.values.now in
    let i = c.loop-i in
    stored_row i.i (fields v) i.invariant (stored-as (λ k. field (c.from.ensures k) (c.separator.ensures k)) c.put_field-p.ensures)
