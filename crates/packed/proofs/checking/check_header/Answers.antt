-- `packed::checking::check_header` meets its contract: test by test. Assumes nothing.
use Rattle.std.specs.Prelude.{Ok}
use mathlib.Core.Path.{ap, sym, ◌∙◌}
use Prim.Native.Nat.{ℕ}
use native.Mathlib.Omega.{arith}
use Rattle.slices.specs.Extremes.{largest}
use Rattle.slices.proofs.Refusals.{refuses, gives}
use Rattle.slices.proofs.Scans.{inside}
use Rattle.packed.specs.Layout.{state_count, size_of}
use Rattle.packed.proofs.Stages.{no-counts, bad-letters, bad-states, no-sizes, bad-size, good-counts}
use Rattle.packed.proofs.checking.check_header.Goals as goal

pub returns-then-len-lt2 : goal.returns-then-len-lt2
returns-then-len-lt2 c = c.refusal.ensures ∙ refuses _ (no-counts _ _ c.if-len-lt2.true)

pub returns-then-is_bad_count : goal.returns-then-is_bad_count
returns-then-is_bad_count c =
    c.refusal-then-is_bad_count.ensures ∙ refuses _ (bad-letters _ _ c.if-len-lt2.false (sym c.is_bad_count.ensures ∙ c.if-is_bad_count.true))

pub returns-then-is_bad_count-2 : goal.returns-then-is_bad_count-2
returns-then-is_bad_count-2 c =
    c.refusal-then-is_bad_count-2.ensures
    ∙ refuses _
    (bad-states _ _ c.if-len-lt2.false (sym c.is_bad_count.ensures ∙ c.if-is_bad_count.false) (sym c.is_bad_count-2.ensures ∙ c.if-is_bad_count-2.true))

pub overflow_add-n : goal.overflow_add-n
overflow_add-n c = omega (arith, inside 1 33 (state_count c.args.sheet.now) (sym c.is_bad_count-2.ensures ∙ c.if-is_bad_count-2.false), c.states-n.ensures)

pub returns-then-len-n : goal.returns-then-len-n
returns-then-len-n c =
    c.refusal-then-len-n.ensures ∙ refuses _ (no-sizes _ _ c.if-len-lt2.false (sym c.is_bad_count.ensures ∙ c.if-is_bad_count.false) (sym c.is_bad_count-2.ensures ∙ c.if-is_bad_count-2.false) c.states-n.ensures c.if-len-n.true)

pub returns-then-q-n : goal.returns-then-q-n
returns-then-q-n c =
    c.refusal-then-q-n.ensures
    ∙ refuses _
    (bad-size _ _ c.if-len-lt2.false (sym c.is_bad_count.ensures ∙ c.if-is_bad_count.false) (sym c.is_bad_count-2.ensures ∙ c.if-is_bad_count-2.false) c.states-n.ensures c.if-len-n.false c.first_outside-q.ensures c.if-q-n.true)

pub returns : goal.returns
returns c =
    let b = c.args.sheet.now in
    let s = c.letters.ensures in
    let m = c.states-n.ensures in
    let w = c.widest.ensures ∙ ap (λ (m : ℕ). largest m (size_of b)) m in
    (λ i. Ok (record { letters = s i; states = m i; widest = w i }))
    ∙ gives _
    (good-counts _ _ c.if-len-lt2.false (sym c.is_bad_count.ensures ∙ c.if-is_bad_count.false) (sym c.is_bad_count-2.ensures ∙ c.if-is_bad_count-2.false) m c.if-len-n.false c.first_outside-q.ensures c.if-q-n.false)
