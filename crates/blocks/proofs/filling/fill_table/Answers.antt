-- `blocks::filling::fill_table` meets its contract. Assumes nothing.
use mathlib.Core.Path.{sym, subst}
use Prim.Native.Nat.{ℕ, ◌+◌, ◌*◌, ◌<◌}
use native.Mathlib.Omega.{arith}
use lib.ListN.{get_or}
use Rattle.slices.specs.Tables.{tab}
use Rattle.slices.proofs.Tables.{length-tab, tab-same, row-after}
use Rattle.numbers.proofs.Stores.{stored-none-rows, stored_row, stored-as}
use Rattle.blocks.proofs.Gathered.{row-entry, row_within}
use Rattle.blocks.proofs.filling.fill_table.Goals as goal

pub loop-q-init : goal.loop-q-init
loop-q-init c = (omega arith, omega arith, stored-none-rows _ _ _)

pub gather-w-requires-clause-by_index : goal.gather-w-requires-clause-by_index
gather-w-requires-clause-by_index c =
    λ j h. (
      row_within c.args.values.now c.args.at c.args.head c.args.s c.loop-q.q c.loop-q.p c.loop-q.invariant.1 c.args.k j c.loop-q-test.true h c.requires.head_in_bounds,
      subst (λ (x : ℕ). x < 256) (sym (row-entry c.args.values.now c.args.at c.args.head c.args.s c.loop-q.q c.loop-q.p c.loop-q.invariant.1 j)) (c.requires.by_index c.loop-q.q j c.loop-q-test.true h),
    )

pub loop-q-preserved : goal.loop-q-preserved
loop-q-preserved c =
    let f : ℕ → ℕ → ℕ = λ q b. get_or c.args.values.now (c.args.at + (q * (c.args.s + c.args.head) + (c.args.head + b))) 0 in
    let g : ℕ → ℕ = λ j. get_or c.args.values.now (c.loop-q.p + j * 1) 0 in (
      omega (arith, c.gather-w.ensures.next, length-tab c.args.s g, c.loop-q.invariant.0, row-after c.loop-q.q c.args.s),
      omega (arith, c.loop-q.invariant.1, row-after c.loop-q.q (c.args.s + c.args.head)),
      stored_row c.loop-q.q (λ q. tab c.args.s (f q)) c.loop-q.invariant.2
          (stored-as (tab-same c.args.s g (f c.loop-q.q) (λ j h. row-entry c.args.values.now c.args.at c.args.head c.args.s c.loop-q.q c.loop-q.p c.loop-q.invariant.1 j)) c.gather-w.ensures),
    )
