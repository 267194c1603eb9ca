-- `verdict::saying::put_wait` meets its contract. Assumes nothing.
use native.Mathlib.Omega.{arith}
use Rattle.console.proofs.Printed.{field-few}
use Rattle.verdict.proofs.Blocks.{field-ends}
use Rattle.verdict.proofs.Spoken.{wait-stored}
use Rattle.verdict.proofs.saying.put_wait.Goals as goal

pub put_field-turned-requires : goal.put_field-turned-requires
put_field-turned-requires c =
    omega (arith, c.put_start-begun.ensures.1, field-few c.args.i 32 (omega arith))

pub put_literal-looped-requires : goal.put_literal-looped-requires
put_literal-looped-requires c =
    omega (arith, c.put_start-begun.ensures.1, field-ends c.args.i 32 (omega arith) c.put_field-turned.ensures)

pub put_literal-named-requires : goal.put_literal-named-requires
put_literal-named-requires c =
    omega (arith, c.put_start-begun.ensures.1, field-ends c.args.i 32 (omega arith) c.put_field-turned.ensures, c.put_literal-looped.ensures.next, c.requires)

pub put_literal-waits-requires : goal.put_literal-waits-requires
put_literal-waits-requires c =
    omega (arith, c.put_start-begun.ensures.1, field-ends c.args.i 32 (omega arith) c.put_field-turned.ensures, c.put_literal-looped.ensures.next, c.put_literal-named.ensures.next, c.requires)

pub put_field-requires : goal.put_field-requires
put_field-requires c =
    omega (arith, c.put_start-begun.ensures.1, field-ends c.args.i 32 (omega arith) c.put_field-turned.ensures, c.put_literal-looped.ensures.next, c.put_literal-named.ensures.next, c.requires, c.put_literal-waits.ensures.next, field-few c.args.state 59 (omega arith))

pub returns : goal.returns
returns c =
    wait-stored c.args.name.now c.args.accepted c.args.i c.args.state c.requires (omega arith) (omega arith) c.put_start-begun.ensures c.put_field-turned.ensures c.put_literal-looped.ensures c.put_literal-named.ensures c.put_literal-waits.ensures c.put_field.ensures
