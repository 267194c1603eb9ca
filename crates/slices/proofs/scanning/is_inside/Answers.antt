-- `slices::scanning::is_inside` meets its contract: where the largest is below the limit none is outside. Assumes nothing.
use mathlib.Core.Path.{◌≡◌, refl, sym, ◌∙◌}
use mathlib.Core.Bool.{true≢false}
use mathlib.Core.List.{List}
use Prim.Native.Nat.{ℕ, ◌+◌, ◌-◌, ◌≤◌, ◌<◌}
use native.Mathlib.Omega.{arith}
use borrow.Author.Tests.{ltb-true}
use lib.ListN.{length, get_or, take, drop, length-drop}
use lib.Seq.{get_or-take, get_or-drop, length-take-le}
use Rattle.slices.specs.Scans.{first_outside_of}
use Rattle.slices.proofs.Extremes.{least-none}
use Rattle.slices.proofs.Scans.{not-outside}
use Rattle.slices.proofs.scanning.is_inside.Goals as goal

none : (b : List ℕ) (low limit at count end most : ℕ) → low ≤ 0 → end ≡ at + count → at + count ≤ length b
    → ((i : ℕ) → i < length (take (end - at) (drop at b)) → get_or (take (end - at) (drop at b)) i 0 ≤ most) → most < limit → count ≡ first_outside_of low limit b at count
unfolding first_outside_of
none b low limit at count end most z e fits h l =
    sym (least-none _ _ (λ k m t. true≢false (sym t ∙ not-outside low limit (get_or b (at + k) 0) (omega arith) (below k m))))
  where
    long : end - at ≤ length (drop at b)
    long = omega (arith, length-drop at b, e, fits)

    below : (k : ℕ) → k < count → get_or b (at + k) 0 < limit
    below k m =
        let i : k < end - at = omega (arith, e, m) in
        omega (arith, h k (omega (arith, i, length-take-le (end - at) (drop at b) long)), get_or-take (end - at) (drop at b) k 0 i, get_or-drop at b k 0, l)

pub returns-then-low-gt0 : goal.returns-then-low-gt0
returns-then-low-gt0 c e = absurd (true≢false (sym e))

pub returns : goal.returns
returns c e =
    none _ _ _ _ _ _ c.top.result (omega arith) refl c.requires c.top.ensures (omega (arith, c.from.ensures, ltb-true c.from.result c.args.limit e))
