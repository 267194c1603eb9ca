-- `packed::checking::check_progress` meets its contract: what is left to judge at q says the same as the whole. Assumes nothing.
use mathlib.Core.Path.{◌≡◌, ap, sym, ◌∙◌}
use mathlib.Core.List.{List}
use Prim.Native.Nat.{ℕ, ◌-◌, ◌<◌}
use native.Mathlib.Omega.{arith}
use native.Mathlib.Nat.{sub-zero}
use Rattle.slices.proofs.Refusals.{refuses, gives}
use Rattle.packed.specs.declared.Sizes.{Sizes}
use Rattle.packed.specs.Layout.{letter_count, state_count}
use Rattle.packed.specs.Faults.{progress_fault, sizes_of}
use Rattle.packed.proofs.Bounds.{Body, body}
use Rattle.packed.proofs.Stages.{bad-next, bad-mark, good-state}
use Rattle.packed.proofs.checking.check_progress.Goals as goal
use Rattle.packed.proofs.checking.check_progress.Goals.{After-size-k}

letters : (b : List ℕ) {z : Sizes} → z ≡ sizes_of b → z.letters ≡ letter_count b
letters b e = ap (λ (z : Sizes). z.letters) e

states : (b : List ℕ) {z : Sizes} → z ≡ sizes_of b → z.states ≡ state_count b
states b e = ap (λ (z : Sizes). z.states) e

-- the state at q: where its part lies
part : (c : After-size-k) → Body c.args.sheet.now c.loop-q.q c.loop-q.at c.size-k.result c.args.z.letters
part c =
    let less : c.loop-q.q < state_count c.args.sheet.now = omega (arith, c.loop-q-test.true, states c.args.sheet.now c.requires.2) in
    body _ c.requires.0 c.requires.1 less c.loop-q.invariant.0 c.size-k.ensures (letters c.args.sheet.now c.requires.2)

pub loop-q-init : goal.loop-q-init
loop-q-init c = (c.progress_at-at.ensures, ap (progress_fault _ _ 0) (sym (sub-zero _)))

pub size-k-requires : goal.size-k-requires
size-k-requires c = omega (arith, c.requires.0.long, states c.args.sheet.now c.requires.2)

pub overflow_mul-entries : goal.overflow_mul-entries
overflow_mul-entries c = omega (arith, part ((goal.at.overflow_mul-entries c).After-size-k))

pub first_outside-i-requires : goal.first_outside-i-requires
first_outside-i-requires c = omega (arith, part ((goal.at.first_outside-i-requires c).After-size-k))

pub overflow_add-at : goal.overflow_add-at
overflow_add-at c = omega (arith, part ((goal.at.overflow_add-at c).After-size-k))

pub returns-then-i-entries : goal.returns-then-i-entries
returns-then-i-entries c =
    let i = c.loop-q in
    c.refusal.ensures
    ∙ refuses _
    (i.invariant.1 ∙ bad-next _ _ i.invariant.0 c.size-k.ensures (letters c.args.sheet.now c.requires.2) c.loop-q-test.true c.first_outside-i.ensures c.if-i-entries.true)

pub overflow_add-at-in-loop-q : goal.overflow_add-at-in-loop-q
overflow_add-at-in-loop-q c = omega (arith, part ((goal.at.overflow_add-at-in-loop-q c).After-size-k))

pub first_outside-p-requires : goal.first_outside-p-requires
first_outside-p-requires c = omega (arith, part ((goal.at.first_outside-p-requires c).After-size-k))

pub overflow_add-at-then-p-k : goal.overflow_add-at-then-p-k
overflow_add-at-then-p-k c = omega (arith, part ((goal.at.overflow_add-at-then-p-k c).After-size-k), c.if-p-k.true)

pub returns-then-p-k : goal.returns-then-p-k
returns-then-p-k c =
    let i = c.loop-q in
    c.refusal-then-p-k.ensures
    ∙ refuses _
    (i.invariant.1
    ∙ bad-mark _ _ i.invariant.0 c.size-k.ensures (letters c.args.sheet.now c.requires.2) c.loop-q-test.true c.first_outside-i.ensures c.if-i-entries.false c.first_outside-p.ensures c.if-p-k.true)

pub overflow_add-at-in-loop-q-2 : goal.overflow_add-at-in-loop-q-2
overflow_add-at-in-loop-q-2 c = omega (arith, part ((goal.at.overflow_add-at-in-loop-q-2 c).After-size-k))

pub loop-q-preserved : goal.loop-q-preserved
loop-q-preserved c =
    let i = c.loop-q in (
      (part ((goal.at.loop-q-preserved c).After-size-k)).next,
      i.invariant.1
          ∙ good-state _ _ i.invariant.0 c.size-k.ensures (letters c.args.sheet.now c.requires.2) c.loop-q-test.true c.first_outside-i.ensures c.if-i-entries.false c.first_outside-p.ensures c.if-p-k.false,
    )

pub returns : goal.returns
unfolding progress_fault
returns c =
    let i = c.loop-q in
    let done : c.args.z.states - i.q ≡ 0 = omega (arith, c.loop-q-test.false) in
    gives _ (i.invariant.1 ∙ ap (progress_fault _ _ i.q) done)
