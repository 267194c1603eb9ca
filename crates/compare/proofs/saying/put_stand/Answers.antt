-- `compare::saying::put_stand` meets its contract. Assumes nothing.
use Prim.Native.Nat.{◌≤◌, ◌<◌}
use native.Mathlib.Omega.{arith}
use Rattle.console.proofs.Printed.{field-few}
use Rattle.compare.proofs.Spoken.{stand-stored}
use Rattle.compare.proofs.saying.put_stand.Goals as goal

pub put_field-waits-requires : goal.put_field-waits-requires
put_field-waits-requires c =
    let small : (c.args.x.waits < 18446744073709551616) × (c.args.x.ends < 18446744073709551616) =
    (omega arith, omega arith) in
    omega (arith, c.put_literal-named.ensures.next, c.put_literal-spaced.ensures.next, field-few c.args.x.waits 32 small.0)

pub put_literal-then-requires : goal.put_literal-then-requires
put_literal-then-requires c =
    let small : (c.args.x.waits < 18446744073709551616) × (c.args.x.ends < 18446744073709551616) =
    (omega arith, omega arith) in
    let upto : c.put_field-waits.result ≤ 266400 =
    omega (arith, c.put_literal-named.ensures.next, c.put_literal-spaced.ensures.next, c.put_field-waits.ensures.next, field-few c.args.x.waits 32 small.0, c.requires.0, c.requires.1) in
    omega (arith, upto)

pub put_field-requires : goal.put_field-requires
put_field-requires c =
    let small : (c.args.x.waits < 18446744073709551616) × (c.args.x.ends < 18446744073709551616) =
    (omega arith, omega arith) in
    let upto : c.put_field-waits.result ≤ 266400 =
    omega (arith, c.put_literal-named.ensures.next, c.put_literal-spaced.ensures.next, c.put_field-waits.ensures.next, field-few c.args.x.waits 32 small.0, c.requires.0, c.requires.1) in
    omega (arith, upto, c.put_literal-then.ensures.next, field-few c.args.x.ends 10 small.1)

pub returns : goal.returns
returns c =
    let small : (c.args.x.waits < 18446744073709551616) × (c.args.x.ends < 18446744073709551616) =
    (omega arith, omega arith) in
    stand-stored c.args.name.now c.args.x c.requires.0 small.0 small.1 c.put_literal-named.ensures c.put_literal-spaced.ensures c.put_field-waits.ensures c.put_literal-then.ensures c.put_field.ensures
