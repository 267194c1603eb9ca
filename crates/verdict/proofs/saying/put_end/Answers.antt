-- `verdict::saying::put_end` meets its contract. Assumes nothing.
use native.Mathlib.Omega.{arith}
use Rattle.console.proofs.Printed.{field-few}
use Rattle.verdict.proofs.Blocks.{field-ends}
use Rattle.verdict.proofs.Spoken.{end-stored}
use Rattle.verdict.proofs.saying.put_end.Goals as goal

pub put_field-turned-requires : goal.put_field-turned-requires
put_field-turned-requires c =
    omega (arith, c.requires, c.put_literal-spaced.ensures.next, field-few c.args.j 32 (omega arith))

pub put_literal-led-requires : goal.put_literal-led-requires
put_literal-led-requires c =
    omega (arith, c.requires, c.put_literal-spaced.ensures.next, field-ends c.args.j 32 (omega arith) c.put_field-turned.ensures)

pub put_field-ended-requires : goal.put_field-ended-requires
put_field-ended-requires c =
    omega (arith, c.requires, c.put_literal-spaced.ensures.next, field-ends c.args.j 32 (omega arith) c.put_field-turned.ensures, c.put_literal-led.ensures.next, field-few c.args.end 44 (omega arith))

pub put_mark-requires : goal.put_mark-requires
put_mark-requires c =
    omega (arith, c.requires, c.put_literal-spaced.ensures.next, field-ends c.args.j 32 (omega arith) c.put_field-turned.ensures, c.put_literal-led.ensures.next, field-ends c.args.end 44 (omega arith) c.put_field-ended.ensures)

pub returns : goal.returns
returns c =
    end-stored c.args.accepted c.args.j c.args.end (omega arith) (omega arith) c.put_literal-spaced.ensures c.put_field-turned.ensures c.put_literal-led.ensures c.put_field-ended.ensures c.put_mark.ensures
