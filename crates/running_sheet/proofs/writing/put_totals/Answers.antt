-- `running_sheet::writing::put_totals` meets its contract. Assumes nothing.
use native.Mathlib.Omega.{arith}
use Rattle.numbers.proofs.Stores.{stored-then}
use Rattle.running_sheet.proofs.Measures.{totals-long}
use Rattle.running_sheet.proofs.writing.put_totals.Goals as goal

pub put_field-opened-requires : goal.put_field-opened-requires
put_field-opened-requires c = omega (arith, c.requires, c.put_literal-named.ensures.next, totals-long c.args.opening c.args.turn)

pub put_field-requires : goal.put_field-requires
put_field-requires c =
    omega (arith, c.requires, c.put_literal-named.ensures.next, c.put_field-opened.ensures.next, totals-long c.args.opening c.args.turn)

pub returns : goal.returns
returns c =
    stored-then _ _ (stored-then _ _ c.put_literal-named.ensures c.put_field-opened.ensures) c.put_field.ensures
