-- The answers of `boolean::writing::product_length`. Assumes nothing.
use mathlib.Core.Path.{◌≡◌, ap, ◌∙◌}
use mathlib.Core.List.{List}
use Prim.Native.Nat.{ℕ, ◌+◌, ◌*◌}
use native.Mathlib.Omega.{arith}
use Rattle.pairing.specs.declared.PairSizes.{PairSizes}
use Rattle.pairing.specs.Pairs.{sizes_of}
use Rattle.boolean.specs.Pieces.{pair_size, product_at}
use Rattle.boolean.proofs.Extent.{front_at, front-few, product-next, product-few}
use Rattle.boolean.proofs.writing.product_length.Goals as goal

-- where the pair behind the one at hand begins
next : (b c : List ℕ) (x : ℕ) {z : PairSizes} {at k : ℕ} → z ≡ sizes_of b c → at ≡ product_at b c x → k ≡ pair_size b c x
    → at + k * (z.letters + 1) ≡ product_at b c (x + 1)
next b c x e a k = (λ j. a j + k j * ((e j).letters + 1)) ∙ product-next b c x

pub loop-x-init : goal.loop-x-init
loop-x-init c = front_at _ _ c.requires.1

pub overflow_add-at-in-loop-x-2 : goal.overflow_add-at-in-loop-x-2
overflow_add-at-in-loop-x-2 c =
    let b = c.args.first.now in
    let d = c.args.second.now in
    let n = ap (λ (z : PairSizes). z.pairs) c.requires.1 in
    omega (
      arith,
      next b d c.loop-x.x c.requires.1 c.loop-x.invariant c.size_of.ensures,
      product-few c.requires.0 (c.loop-x.x + 1) (omega (arith, n)),
      (front-few c.requires.0 c.requires.1).0,
    )

pub loop-x-preserved : goal.loop-x-preserved
loop-x-preserved c = next c.args.first.now c.args.second.now c.loop-x.x c.requires.1 c.loop-x.invariant c.size_of.ensures
