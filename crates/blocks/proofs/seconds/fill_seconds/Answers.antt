-- `blocks::seconds::fill_seconds` meets its contract. Assumes nothing.
use mathlib.Core.Path.{◌≡◌, refl, ap, ◌∙◌}
use mathlib.Core.List.{List, ◌++◌}
use Prim.Native.Nat.{ℕ, ◌+◌, ◌*◌}
use native.Mathlib.Omega.{arith}
use lib.ListN.{length, get_or, take, drop}
use lib.Seq.{length-take-le}
use Rattle.slices.specs.Tables.{tab}
use Rattle.slices.proofs.Tables.{length-tab}
use Rattle.slices.proofs.Filling.{filling-none, filling-more, filling-all, written-prefix}
use Rattle.blocks.proofs.seconds.fill_seconds.Goals as goal

pub loop-a-init : goal.loop-a-init
loop-a-init c = filling-none _ _ _ (omega (arith, length-take-le c.args.m c.args.seconds.now c.requires.2))

pub loop-a-preserved : goal.loop-a-preserved
loop-a-preserved c =
    filling-more _ c.loop-a.invariant (omega (arith, c.loop-a-test.true, c.loop-a.invariant.same, length-take-le c.args.m c.args.seconds.now c.requires.2)) refl

pub returns : goal.returns
returns c =
    let f : ℕ → ℕ = λ a. get_or c.args.rows.now (a * 2 + 1) 0 in
    let done : c.args.m ≡ length (take c.args.m c.args.seconds.now) = omega (arith, length-take-le c.args.m c.args.seconds.now c.requires.2) in
    ap (λ (l : List ℕ). l ++ drop c.args.m c.args.seconds.now) (filling-all c.loop-a.invariant (omega (arith, c.loop-a-test.false, done)))
    ∙ written-prefix (tab c.args.m f) c.args.seconds.now (length-tab c.args.m f)
