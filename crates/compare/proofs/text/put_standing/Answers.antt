-- `compare::text::put_standing` meets its contract. Assumes nothing.
use Prim.Native.Nat.{◌<◌}
use native.Mathlib.Omega.{arith}
use Rattle.console.proofs.Printed.{field-few}
use Rattle.compare.proofs.Blocks.{line-stored}
use Rattle.compare.proofs.text.put_standing.Goals as goal

pub put_field-waits-requires : goal.put_field-waits-requires
put_field-waits-requires c =
    let small : (c.args.x.waits < 18446744073709551616) × (c.args.x.ends < 18446744073709551616) =
    (omega arith, omega arith) in
    omega (arith, c.requires, field-few c.args.x.waits 32 small.0)

pub put_field-requires : goal.put_field-requires
put_field-requires c =
    let small : (c.args.x.waits < 18446744073709551616) × (c.args.x.ends < 18446744073709551616) =
    (omega arith, omega arith) in
    omega (arith, c.requires, c.put_field-waits.ensures.next, field-few c.args.x.waits 32 small.0, field-few c.args.x.ends 10 small.1)

pub returns : goal.returns
returns c =
    let small : (c.args.x.waits < 18446744073709551616) × (c.args.x.ends < 18446744073709551616) =
    (omega arith, omega arith) in
    line-stored c.args.x small.0 small.1 c.put_field-waits.ensures c.put_field.ensures
