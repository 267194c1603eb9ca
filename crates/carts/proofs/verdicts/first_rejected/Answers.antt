-- `carts::verdicts::first_rejected` meets its contract: so many shows were accepted, and what is left is good. Assumes nothing.
use mathlib.Core.Path.{ap, sym, subst, ◌∙◌}
use Prim.Native.Nat.{ℕ, ◌+◌, ◌-◌}
use native.Mathlib.Omega.{arith}
use Rattle.packed.specs.Layout.{decode}
use Rattle.carts.specs.declared.Span.{Span}
use Rattle.carts.specs.Reading.{shows_from}
use Rattle.carts.specs.Loads.{first_rejected_of}
use Rattle.carts.specs.Steps.{GoodShows}
use Rattle.carts.proofs.Onward.{all_left}
use Rattle.carts.proofs.Answers.{next-within, next-judged, next-good, rejected-here, accepted-here, accepted-all}
use Rattle.carts.proofs.verdicts.first_rejected.Goals as goal

pub loop-i-init : goal.loop-i-init
loop-i-init c =
    let e = all_left c.args.count in (
      subst (GoodShows c.args.sheet.now c.args.cart.now 1) (sym e) c.requires,
      omega (arith, ap (λ (n : ℕ). first_rejected_of (decode c.args.sheet.now) (shows_from c.args.cart.now 1 n)) e),
    )

pub is_accepted-requires : goal.is_accepted-requires
is_accepted-requires c =
    (next-within c.loop-i.invariant.0 (omega arith), next-judged c.loop-i.invariant.0 (omega arith))

pub returns-then-not-is_accepted : goal.returns-then-not-is_accepted
returns-then-not-is_accepted c =
    rejected-here (decode c.args.sheet.now) c.args.cart.now c.loop-i.at c.loop-i.i _ c.loop-i.invariant.1 (omega arith) c.is_accepted.ensures c.if-not-is_accepted.true

pub locate-at-requires : goal.locate-at-requires
locate-at-requires c = omega (arith, next-within c.loop-i.invariant.0 (omega arith))

pub loop-i-preserved : goal.loop-i-preserved
loop-i-preserved c =
    let e = sym (ap (λ (z : Span). z.end) c.locate-at.ensures) in
    let left = c.args.count - (c.loop-i.i + 1) in (
      subst (λ (p : ℕ). GoodShows c.args.sheet.now c.args.cart.now p left) e (next-good c.loop-i.invariant.0 (omega arith)),
      ap (λ (p : ℕ). c.loop-i.i + 1 + first_rejected_of (decode c.args.sheet.now) (shows_from c.args.cart.now p left)) (sym e)
          ∙ accepted-here (decode c.args.sheet.now) c.args.cart.now c.loop-i.at c.loop-i.i _ c.loop-i.invariant.1 (omega arith) c.is_accepted.ensures c.if-not-is_accepted.false,
    )

pub returns : goal.returns
returns c =
    accepted-all (decode c.args.sheet.now) c.args.cart.now c.loop-i.at c.loop-i.i _ c.loop-i.invariant.1 (omega arith) (omega arith)
