-- `cart_files::scenes::scene_at` meets its contract. Assumes nothing.
use mathlib.Core.Path.{ap, sym, ◌∙◌}
use Prim.Native.Nat.{ℕ, ◌+◌, ◌-◌}
use native.Mathlib.Omega.{arith}
use Rattle.cart_files.specs.declared.Scene.{Scene}
use Rattle.cart_files.specs.Scenes.{scene_from}
use Rattle.cart_files.proofs.Sought.{sought-here, sought-past, sought-none}
use Rattle.cart_files.proofs.scenes.scene_at.Goals as goal

pub loop-i-init : goal.loop-i-init
loop-i-init c =
    record { upto = omega arith; few = omega (arith, c.byte_at-count.ensures.1); bound = omega arith; same = ap (λ (n : ℕ). scene_from c.args.cart.now 1 0 n c.args.place) (omega arith) }

pub returns-then-place-end : goal.returns-then-place-end
returns-then-place-end c =
    let e = sought-here c.args.cart.now c.loop-i.at c.loop-i.i (c.byte_at-count.result - (c.loop-i.i + 1)) c.args.place c.length_at.ensures.0 c.length_at-in-loop-i.ensures.0 {k = c.byte_at-count.result - c.loop-i.i} (omega arith) c.if-place-end.true c.scene_in.ensures in
    (e ∙ (c.loop-i.invariant.same ∙ ap (λ (n : ℕ). scene_from c.args.cart.now 1 0 n c.args.place) c.byte_at-count.ensures.0), omega (arith, ap (λ (x : Scene). x.openings) c.scene_in.ensures, c.length_at.ensures.1))

pub loop-i-preserved : goal.loop-i-preserved
loop-i-preserved c =
    record {
      upto = omega arith;
      few = c.loop-i.invariant.few;
      bound = omega (arith, c.length_at.ensures.1, c.length_at-in-loop-i.ensures.1, c.loop-i.invariant.bound);
      same = sym (sought-past c.args.cart.now c.loop-i.at c.loop-i.i (c.byte_at-count.result - (c.loop-i.i + 1)) c.args.place c.length_at.ensures.0 c.length_at-in-loop-i.ensures.0 (omega arith) c.if-place-end.false) ∙ c.loop-i.invariant.same;
    }

pub returns : goal.returns
returns c =
    (sought-none c.args.cart.now c.loop-i.at c.loop-i.i c.args.place (omega arith) (omega arith) ∙ (c.loop-i.invariant.same ∙ ap (λ (n : ℕ). scene_from c.args.cart.now 1 0 n c.args.place) c.byte_at-count.ensures.0), omega arith)
