-- `carts::judging::check_shows` meets its contract: what is left is refused for what the whole is. Assumes nothing.
use mathlib.Core.Path.{◌≡◌, ap, sym, ◌∙◌}
use mathlib.Core.List.{List}
use Prim.Native.Nat.{ℕ, ◌+◌, ◌-◌, ◌≤◌, ◌<◌}
use native.Mathlib.Omega.{arith}
use lib.ListN.{length}
use Rattle.slices.proofs.Refusals.{handed, passed, failed}
use Rattle.carts.specs.declared.Span.{Span}
use Rattle.carts.specs.Reading.{end_at, end_from}
use Rattle.carts.specs.Faults.{shows_fault}
use Rattle.carts.proofs.Onward.{all_left, end-rises, end-next, fault-next, fault-last}
use Rattle.carts.proofs.judging.check_shows.Goals as goal

-- the next show lies within the cart
inside : (b : List ℕ) (at i count : ℕ) → end_from b at (count - i) ≡ length b → i < count → end_at b at ≤ length b
inside b at i count inv h = omega (arith, end-rises b (end_at b at) (count - (i + 1)), end-next b at h, inv)

pub loop-init : goal.loop-init
loop-init c =
    (ap (end_from c.args.cart.now 1) (all_left c.args.count) ∙ c.requires, ap (shows_fault c.args.letters c.args.cart.now 1) (all_left c.args.count))

pub check_show-requires : goal.check_show-requires
check_show-requires c = inside c.args.cart.now c.loop.at c.loop.counter c.args.count c.loop.invariant.0 (omega arith)

pub returns-in_err-check_show : goal.returns-in_err-check_show
returns-in_err-check_show c =
    rw (handed c.from_residual.ensures) (sym (sym c.loop.invariant.1 ∙ (fault-next _ _ _ (omega arith) ∙ failed _ (sym c.in_err-check_show.ensures))))

pub locate-at-requires : goal.locate-at-requires
locate-at-requires c = omega (arith, inside c.args.cart.now c.loop.at c.loop.counter c.args.count c.loop.invariant.0 (omega arith))

pub loop-preserved : goal.loop-preserved
loop-preserved c =
    let e = ap (λ (z : Span). z.end) c.locate-at.ensures in
    let left = c.args.count - (c.loop.counter + 1) in (
      ap (λ (p : ℕ). end_from c.args.cart.now p left) e ∙ (sym (end-next c.args.cart.now c.loop.at (omega arith)) ∙ c.loop.invariant.0),
      ap (λ (p : ℕ). shows_fault c.args.letters c.args.cart.now p left) e
          ∙ (sym (fault-next c.args.cart.now c.loop.at c.args.letters (omega arith) ∙ passed _ (sym c.in_ok-check_show.ensures)) ∙ c.loop.invariant.1),
    )

pub returns : goal.returns
returns c = sym (fault-last c.args.cart.now c.loop.at c.args.letters (omega arith)) ∙ c.loop.invariant.1
