-- `carts::judging::is_exact` meets its contract: a show that is cut ends past the cart, and so do all behind it. Assumes nothing.
use mathlib.Core.Path.{◌≡◌, ap, sym, ◌∙◌}
use mathlib.Core.Bool.{false}
use mathlib.Core.List.{List}
use Prim.Native.Nat.{ℕ, ◌+◌, ◌-◌, ◌<◌}
use native.Mathlib.Omega.{arith}
use lib.Dec.{eqb}
use lib.ListN.{length}
use borrow.Author.Tests.{ne_eqb}
use Rattle.carts.specs.declared.Span.{Span}
use Rattle.carts.specs.Reading.{end_at, end_from}
use Rattle.carts.specs.Steps.{span_of}
use Rattle.carts.proofs.Onward.{all_left, end-rises, end-next, end-last}
use Rattle.carts.proofs.judging.is_exact.Goals as goal

-- a show that ends past the cart
past : (b : List ℕ) (at i count : ℕ) → end_from b at (count - i) ≡ end_from b 1 count → i < count → length b < end_at b at → eqb (end_from b 1 count) (length b) ≡ false
past b at i count inv h k =
    ne_eqb (end_from b 1 count) (length b)
    (λ e. omega (arith, e, inv, end-next b at h, end-rises b (end_at b at) (count - (i + 1)), k))

-- where the show ends
next : (b : List ℕ) (at : ℕ) {z : Span} → z ≡ span_of b at → z.end ≡ end_at b at
next b at e = ap (λ (z : Span). z.end) e

pub loop-init : goal.loop-init
loop-init c = (omega arith, ap (end_from c.args.cart.now 1) (all_left c.args.count))

pub returns-then-cart-at-lt4 : goal.returns-then-cart-at-lt4
returns-then-cart-at-lt4 c = sym (past c.args.cart.now c.loop.at c.loop.counter c.args.count c.loop.invariant.1 (omega arith) (omega (arith, c.loop.invariant.0, c.if-cart-at-lt4.true)))

pub locate-at-requires : goal.locate-at-requires
locate-at-requires c = omega (arith, c.loop.invariant.0, c.if-cart-at-lt4.false)

pub returns-then-cart-at : goal.returns-then-cart-at
returns-then-cart-at c = sym (past c.args.cart.now c.loop.at c.loop.counter c.args.count c.loop.invariant.1 (omega arith) (omega (arith, next c.args.cart.now c.loop.at c.locate-at.ensures, c.if-cart-at.true)))

pub loop-preserved : goal.loop-preserved
loop-preserved c = (
  omega (arith, next c.args.cart.now c.loop.at c.locate-at.ensures, c.if-cart-at.false),
  ap (λ (p : ℕ). end_from c.args.cart.now p (c.args.count - (c.loop.counter + 1))) (next c.args.cart.now c.loop.at c.locate-at.ensures) ∙ (sym (end-next c.args.cart.now c.loop.at (omega arith)) ∙ c.loop.invariant.1),
)

pub returns : goal.returns
returns c =
    ap (λ (p : ℕ). eqb p (length c.args.cart.now)) (sym (end-last c.args.cart.now c.loop.at (omega arith)) ∙ c.loop.invariant.1)
