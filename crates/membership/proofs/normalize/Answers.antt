-- `membership::normalize` meets its contract: the states so far are noted, and the first that comes again ends it. Assumes nothing.
use mathlib.Core.Path.{◌≡◌, refl, ap, sym, ◌∙◌}
use Prim.Native.Nat.{ℕ, ◌<◌}
use native.Mathlib.Omega.{arith}
use borrow.Author.Rules.{rules}
use Rattle.fdfa.proofs.Words.{walk_turn}
use Rattle.fdfa.proofs.Returns.{smallest}
use Rattle.packed.specs.Columns.{column_step}
use Rattle.membership.specs.Steps.{turns_from}
use Rattle.membership.proofs.Seen.{seen_none, room, seen_more, seen-returns}
use Rattle.membership.proofs.Turns.{turns-follow}
use Rattle.membership.proofs.normalize.Goals as goal

few : {f : ℕ → ℕ} {q t : ℕ} → ((k : ℕ) → f k < 32) → q ≡ f t → q < 32
few {t = t} within e = omega (arith, e, within t)

pub loop-seen-init : goal.loop-seen-init
loop-seen-init c = (seen_none _, search rules, refl)

pub offset_bounds-seen-q : goal.offset_bounds-seen-q
offset_bounds-seen-q c = omega (arith, few c.requires.inside c.loop-seen.invariant.2)

pub bounds-seen-q : goal.bounds-seen-q
bounds-seen-q c = few c.requires.inside c.loop-seen.invariant.2

pub overflow_add-seen : goal.overflow_add-seen
overflow_add-seen c = omega (arith, room (turns_from c.args.table.now c.args.state c.args.period.now) 32 c.requires.inside (omega arith) _ _ c.loop-seen.invariant.0 c.loop-seen.invariant.2 c.loop-seen-test.true)

pub offset_bounds-seen-q-in-loop-seen : goal.offset_bounds-seen-q-in-loop-seen
offset_bounds-seen-q-in-loop-seen c = omega (arith, few c.requires.inside c.loop-seen.invariant.2)

pub bounds-seen-q-in-loop-seen : goal.bounds-seen-q-in-loop-seen
bounds-seen-q-in-loop-seen c = few c.requires.inside c.loop-seen.invariant.2

pub walk-q-requires : goal.walk-q-requires
walk-q-requires c = rw c.loop-seen.invariant.2 (c.requires.walks c.loop-seen.t)

pub overflow_add-t : goal.overflow_add-t
overflow_add-t c = omega (arith, room (turns_from c.args.table.now c.args.state c.args.period.now) 32 c.requires.inside (omega arith) _ _ c.loop-seen.invariant.0 c.loop-seen.invariant.2 c.loop-seen-test.true)

pub loop-seen-smaller : goal.loop-seen-smaller
loop-seen-smaller c = omega (arith, room (turns_from c.args.table.now c.args.state c.args.period.now) 32 c.requires.inside (omega arith) _ _ c.loop-seen.invariant.0 c.loop-seen.invariant.2 c.loop-seen-test.true)

pub loop-seen-preserved : goal.loop-seen-preserved
loop-seen-preserved c =
    let a = c.args in (
      seen_more (turns_from c.args.table.now c.args.state c.args.period.now) 32 c.requires.inside (omega arith) _ _ c.loop-seen.invariant.0 c.loop-seen.invariant.2 c.loop-seen-test.true,
      omega (arith, room (turns_from c.args.table.now c.args.state c.args.period.now) 32 c.requires.inside (omega arith) _ _ c.loop-seen.invariant.0 c.loop-seen.invariant.2 c.loop-seen-test.true),
      c.walk-q.ensures ∙ (rw c.loop-seen.invariant.2 (walk_turn (column_step a.table.now) a.state a.period.now c.loop-seen.t)),
    )

pub offset_bounds-seen-q-2 : goal.offset_bounds-seen-q-2
offset_bounds-seen-q-2 c = omega (arith, few c.requires.inside c.loop-seen.invariant.2)

pub bounds-seen-q-2 : goal.bounds-seen-q-2
bounds-seen-q-2 c = few c.requires.inside c.loop-seen.invariant.2

pub overflow_sub-i : goal.overflow_sub-i
overflow_sub-i c = omega (arith, (seen-returns (turns_from c.args.table.now c.args.state c.args.period.now) 32 c.requires.inside (omega arith) _ _ c.loop-seen.invariant.0 c.loop-seen.invariant.2 (turns-follow (column_step c.args.table.now) c.args.state c.args.period.now) c.loop-seen-test.false).some)

pub overflow_sub-result : goal.overflow_sub-result
overflow_sub-result c = omega (arith, (seen-returns (turns_from c.args.table.now c.args.state c.args.period.now) 32 c.requires.inside (omega arith) _ _ c.loop-seen.invariant.0 c.loop-seen.invariant.2 (turns-follow (column_step c.args.table.now) c.args.state c.args.period.now) c.loop-seen-test.false).upto)

pub returns : goal.returns
returns c =
    let a = c.args in
    let f = (seen-returns (turns_from c.args.table.now c.args.state c.args.period.now) 32 c.requires.inside (omega arith) _ _ c.loop-seen.invariant.0 c.loop-seen.invariant.2 (turns-follow (column_step c.args.table.now) c.args.state c.args.period.now) c.loop-seen-test.false) in
    let s = smallest 32 (turns_from c.args.table.now c.args.state c.args.period.now) (turns-follow (column_step a.table.now) a.state a.period.now) c.requires.inside in
    record {
      smallest = rw (f.second, f.first) s;
      stands = f.stands ∙ ap (turns_from c.args.table.now c.args.state c.args.period.now) (sym f.first);
    }
