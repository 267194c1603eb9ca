-- The answers of `boolean::product`: both sheets, then N and K, then the result. Assumes nothing.
use mathlib.Core.Path.{ap}
use native.Mathlib.Omega.{arith}
use Rattle.slices.proofs.Refusals.{was-given}
use Rattle.packed.specs.Faults.{pair_fault}
use Rattle.pairing.specs.declared.PairSizes.{PairSizes}
use Rattle.pairing.specs.Pairs.{sizes_of}
use Rattle.pairing.proofs.Within.{sound-alike}
use Rattle.boolean.proofs.Verdicts.{sizes-few}
use Rattle.boolean.proofs.product.Goals as goal

pub fill_product-requires : goal.fill_product-requires
fill_product-requires c =
    let b = c.args.first.now in
    let d = c.args.second.now in
    let w = was-given (pair_fault b d) (sizes_of b d) c.in_ok-z.ensures in (
      record {
        alike = sound-alike b d w.0;
        few_pairs = omega (arith, ap (λ (z : PairSizes). z.pairs) w.1, c.if-z-gt32.false);
        few_progress = sizes-few b d (omega (arith, ap (λ (z : PairSizes). z.widest) w.1, c.if-z-gt32-2.false));
      },
      w.1,
    )
