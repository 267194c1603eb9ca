-- `carts::judging::check_show` meets its contract: the prefix, then the period. Assumes nothing.
use Rattle.slices.specs.declared.Reason.TheVariants.{EmptyLoop, UnknownLetter}
use mathlib.Core.Path.{◌≡◌, ap, ap₂, sym, ◌∙◌}
use mathlib.Core.List.{List}
use Prim.Native.Nat.{ℕ, ◌+◌, ◌-◌, ◌≤◌}
use native.Mathlib.Omega.{arith}
use Rattle.slices.specs.declared.Part.TheVariants.{Opening, Loop}
use Rattle.slices.specs.Refusals.{fault, fault_of}
use Rattle.slices.specs.Scans.{first_outside_of}
use Rattle.carts.specs.declared.Span.{Span}
use Rattle.carts.specs.Reading.{prefix_length, period_length, prefix_at, period_at, end_at}
use Rattle.carts.specs.Steps.{span_of}
use Rattle.carts.proofs.Shows.{bad-prefix, no-period, bad-period, good-show}
use Rattle.carts.proofs.judging.check_show.Goals as goal

-- where the show lies
lies : (b : List ℕ) (at : ℕ) {z : Span} → z ≡ span_of b at → (z.prefix ≡ prefix_at at) × (z.period ≡ period_at b at) × (z.end ≡ end_at b at)
lies b at e = (ap (λ (z : Span). z.prefix) e, ap (λ (z : Span). z.period) e, ap (λ (z : Span). z.end) e)

module _ (b : List ℕ) (at s : ℕ) {z : Span} (is : z ≡ span_of b at) where
  -- the scan of the prefix
  module _ {i : ℕ} (scanned : i ≡ first_outside_of 0 s b z.prefix (z.period - z.prefix)) where
    stops : i ≡ first_outside_of 0 s b (prefix_at at) (prefix_length b at)
    stops = let e = lies b at is in scanned ∙ ap₂ (first_outside_of 0 s b) e.0 (omega (arith, e.0, e.1))

    passes : z.period - z.prefix ≤ i → prefix_length b at ≤ i
    passes h = let e = lies b at is in omega (arith, e.0, e.1, h)

  -- the scan of the period
  some : (z.end - z.period ≡ 0 → ⊥) → period_length b at ≡ 0 → ⊥
  some h d = let e = lies b at is in h (omega (arith, e.1, e.2, d))

  ends : {j : ℕ} → j ≡ first_outside_of 0 s b z.period (z.end - z.period) → j ≡ first_outside_of 0 s b (period_at b at) (period_length b at)
  ends d = let e = lies b at is in d ∙ ap₂ (first_outside_of 0 s b) e.1 (omega (arith, e.1, e.2))

pub overflow_sub-m : goal.overflow_sub-m
overflow_sub-m c = let e = lies c.args.cart.now c.args.at c.locate-span.ensures in omega (arith, e.0, e.1)

pub first_outside-i-requires : goal.first_outside-i-requires
first_outside-i-requires c = let e = lies c.args.cart.now c.args.at c.locate-span.ensures in omega (arith, e.0, e.1, c.requires)

pub returns-then-i-m : goal.returns-then-i-m
returns-then-i-m c =
    let e = lies c.args.cart.now c.args.at c.locate-span.ensures in
    ap fault c.refuse.ensures
    ∙ (ap (λ (o : ℕ). fault_of UnknownLetter Opening (o + c.first_outside-i.result)) e.0 ∙ sym (bad-prefix _ _ _ (stops c.args.cart.now c.args.at c.args.letters c.locate-span.ensures c.first_outside-i.ensures) (omega (arith, e.0, e.1, c.if-i-m.true))))

pub overflow_sub-n : goal.overflow_sub-n
overflow_sub-n c = let e = lies c.args.cart.now c.args.at c.locate-span.ensures in omega (arith, e.1, e.2)

pub returns-then-n-eq0 : goal.returns-then-n-eq0
returns-then-n-eq0 c =
    let e = lies c.args.cart.now c.args.at c.locate-span.ensures in
    ap fault c.refuse-then-n-eq0.ensures ∙ (ap (fault_of EmptyLoop Loop) e.1 ∙ sym (no-period _ _ _ (stops c.args.cart.now c.args.at c.args.letters c.locate-span.ensures c.first_outside-i.ensures) (passes c.args.cart.now c.args.at c.args.letters c.locate-span.ensures c.first_outside-i.ensures c.if-i-m.false) (omega (arith, e.1, e.2, c.if-n-eq0.true))))

pub first_outside-j-requires : goal.first_outside-j-requires
first_outside-j-requires c = let e = lies c.args.cart.now c.args.at c.locate-span.ensures in omega (arith, e.1, e.2, c.requires)

pub returns-then-j-n : goal.returns-then-j-n
returns-then-j-n c =
    let e = lies c.args.cart.now c.args.at c.locate-span.ensures in
    ap fault c.refuse-then-j-n.ensures
    ∙ (ap (λ (p : ℕ). fault_of UnknownLetter Loop (p + c.first_outside-j.result)) e.1
    ∙ sym (bad-period _ _ _ (stops c.args.cart.now c.args.at c.args.letters c.locate-span.ensures c.first_outside-i.ensures) (passes c.args.cart.now c.args.at c.args.letters c.locate-span.ensures c.first_outside-i.ensures c.if-i-m.false) (some c.args.cart.now c.args.at c.args.letters c.locate-span.ensures c.if-n-eq0.false) (ends c.args.cart.now c.args.at c.args.letters c.locate-span.ensures c.first_outside-j.ensures) (omega (arith, e.1, e.2, c.if-j-n.true))))

pub returns : goal.returns
returns c =
    let e = lies c.args.cart.now c.args.at c.locate-span.ensures in
    sym (good-show _ _ _ (stops c.args.cart.now c.args.at c.args.letters c.locate-span.ensures c.first_outside-i.ensures) (passes c.args.cart.now c.args.at c.args.letters c.locate-span.ensures c.first_outside-i.ensures c.if-i-m.false) (some c.args.cart.now c.args.at c.args.letters c.locate-span.ensures c.if-n-eq0.false) (ends c.args.cart.now c.args.at c.args.letters c.locate-span.ensures c.first_outside-j.ensures) (omega (arith, e.1, e.2, c.if-j-n.false)))
