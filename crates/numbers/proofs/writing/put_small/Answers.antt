-- `numbers::writing::put_small` meets its contract. Assumes nothing.
use mathlib.Core.Path.{◌≡◌, ap}
use Prim.Native.Nat.{ℕ, ◌+◌, ◌<◌}
use native.Mathlib.Omega.{arith}
use lib.ListN.{length}
use lib.Seq.{lt-length-set}
use Rattle.numbers.specs.Digits.{field}
use Rattle.numbers.proofs.Smalls.{more, small-field, small-stored, within-two, within-three}
use Rattle.numbers.proofs.writing.put_small.Goals as goal

-- the digits are as many as were counted
long : (n end : ℕ) → n < 1000 → length (field n end) ≡ 2 + more 10 n + more 100 n
long n end h = small-field n end h

pub bounds-out-at : goal.bounds-out-at
bounds-out-at c = omega (arith, c.requires.1, long c.args.n c.args.end c.requires.0)

pub overflow_add-tens : goal.overflow_add-tens
overflow_add-tens c = omega (arith, c.requires.1, long c.args.n c.args.end c.requires.0, c.at_least.ensures)

pub bounds-out-tens : goal.bounds-out-tens
bounds-out-tens c =
    let h : c.args.at + c.at_least.result < length c.args.out.now = omega (arith, c.requires.1, long c.args.n c.args.end c.requires.0, c.at_least.ensures) in
    lt-length-set c.args.out.now c.args.at c.digit.result h

pub overflow_add-ones : goal.overflow_add-ones
overflow_add-ones c =
    omega (arith, c.requires.1, long c.args.n c.args.end c.requires.0, c.at_least.ensures, c.at_least-2.ensures)

-- all of it is within the slice
within : (c : goal.After-digit-3) → c.args.at + c.at_least.result + c.at_least-2.result + 2 ≡ c.args.at + length (field c.args.n c.args.end)
within c =
    omega (arith, long c.args.n c.args.end c.requires.0, c.at_least.ensures, c.at_least-2.ensures)

pub bounds-out-ones : goal.bounds-out-ones
bounds-out-ones c =
    let h : c.args.at + c.at_least.result + c.at_least-2.result < length c.args.out.now = omega (arith, c.requires.1, within c) in
    within-two c.args.out.now c.args.at c.digit.result (c.args.at + c.at_least.result) c.digit-2.result h

pub overflow_add-out : goal.overflow_add-out
overflow_add-out c = omega (arith, c.requires.1, within c)

pub bounds-out-ones-2 : goal.bounds-out-ones-2
bounds-out-ones-2 c =
    let h : c.args.at + c.at_least.result + c.at_least-2.result + 1 < length c.args.out.now = omega (arith, c.requires.1, within c) in
    within-three c.args.out.now c.args.at c.digit.result (c.args.at + c.at_least.result) c.digit-2.result
    (c.args.at + c.at_least.result + c.at_least-2.result) c.digit-3.result h

pub overflow_add-result : goal.overflow_add-result
overflow_add-result c = omega (arith, c.requires.1, within c)

pub returns : goal.returns
returns c =
    small-stored c.args.out.now c.args.at c.args.n c.args.end c.requires.0 (ap (λ (k : ℕ). c.args.at + k) c.at_least.ensures) (ap (λ (k : ℕ). c.args.at + c.at_least.result + k) c.at_least-2.ensures) c.digit.ensures c.digit-2.ensures c.digit-3.ensures
