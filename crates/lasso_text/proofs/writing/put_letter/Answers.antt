-- `lasso_text::writing::put_letter` meets its contract. Assumes nothing.
use mathlib.Core.Path.{ap}
use Prim.Native.Nat.{ℕ}
use native.Mathlib.Omega.{arith}
use lib.ListN.{length, length-append}
use Rattle.numbers.specs.Digits.{field}
use Rattle.numbers.proofs.Stores.{stored-then, stored-as}
use Rattle.lasso_text.proofs.writing.put_letter.Goals as goal

pub put_literal-named-requires : goal.put_literal-named-requires
put_literal-named-requires c = omega (arith, c.requires, length-append c.args.name.now (field c.args.letter 10))

pub put_field-requires : goal.put_field-requires
put_field-requires c =
    let e = ap (λ (n : ℕ). length (field n 10)) c.from.ensures in
    omega (arith, c.requires, c.put_literal-named.ensures.next, e, length-append c.args.name.now (field c.args.letter 10))

pub returns : goal.returns
returns c =
    stored-then _ _ c.put_literal-named.ensures (stored-as (ap (λ (n : ℕ). field n 10) c.from.ensures) c.put_field.ensures)
