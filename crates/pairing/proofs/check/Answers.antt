-- `pairing::check` meets its contract. Assumes nothing.
use Rattle.packed.specs.declared.BothSizes.{BothSizes}
use mathlib.Core.Path.{ap}
use Prim.Native.Nat.{◌*◌}
use native.Mathlib.Omega.{arith}
use Rattle.slices.proofs.Refusals.{was-given}
use Rattle.pairing.proofs.Within.{sound-alike, few-widest}
use Rattle.pairing.proofs.check.Goals as goal

pub overflow_mul-result-2 : goal.overflow_mul-result-2
overflow_mul-result-2 c =
    let z = was-given _ _ c.in_ok-sizes.ensures in
    omega (arith, ap (λ (z : BothSizes). z.first.widest * z.second.widest) z.1, few-widest (sound-alike _ _ z.0))
