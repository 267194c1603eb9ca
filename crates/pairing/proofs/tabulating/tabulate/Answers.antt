-- `pairing::tabulating::tabulate` meets its contract: row after row. Assumes nothing.
use mathlib.Core.Path.{◌≡◌, sym}
use mathlib.Core.List.{List}
use Prim.Native.Nat.{ℕ, ◌+◌, ◌≤◌}
use native.Mathlib.Omega.{arith}
use lib.ListN.{length}
use Rattle.slices.proofs.Tables.{length-tab, length-table}
use Rattle.slices.proofs.Filling.{rows_none, row_room, row-lent, rows_more, rows_all}
use Rattle.pairing.specs.declared.Beside.{Beside}
use Rattle.pairing.specs.Pairs.{next_pair_of}
use Rattle.pairing.proofs.tabulating.tabulate.Invariants.{row}
use Rattle.pairing.proofs.tabulating.tabulate.Goals as goal
use Rattle.pairing.proofs.tabulating.tabulate.Goals.{In-loop-x}

-- the row at hand, as long as there are letters
row-length : (b c : List ℕ) (t : Beside) (x : ℕ) → length (row b c t x) ≡ t.letters
row-length b c t x = length-tab _ _

-- which has room
room : (c : In-loop-x) → c.loop-x.at + c.args.t.letters ≤ length c.loop-x.out
room c = omega (arith, row_room c.loop-x.invariant c.loop-x-test.true, row-length c.args.first.now c.args.second.now c.args.t c.loop-x.x)

pub loop-x-init : goal.loop-x-init
loop-x-init c =
    rows_none _ _ _ (omega (arith, length-table c.args.count c.args.t.letters (next_pair_of c.args.first.now c.args.second.now c.args.t), c.requires.1))

pub offset_bounds-out-at : goal.offset_bounds-out-at
offset_bounds-out-at c = omega (arith, room ((goal.at.offset_bounds-out-at c).In-loop-x))

pub slice_bounds-write_row-count : goal.slice_bounds-write_row-count
slice_bounds-write_row-count c = omega (arith, room ((goal.at.slice_bounds-write_row-count c).In-loop-x))

pub slice_bounds-write_row-start : goal.slice_bounds-write_row-start
slice_bounds-write_row-start c = omega (arith, room ((goal.at.slice_bounds-write_row-start c).In-loop-x))

pub write_row-requires : goal.write_row-requires
write_row-requires c = (
  c.requires.0.reads c.loop-x.x c.loop-x-test.true,
  omega (arith, row-lent c.loop-x.invariant c.loop-x-test.true, row-length c.args.first.now c.args.second.now c.args.t c.loop-x.x),
)

pub overflow_add-at : goal.overflow_add-at
overflow_add-at c = omega (arith, room ((goal.at.overflow_add-at c).In-loop-x))

pub loop-x-preserved : goal.loop-x-preserved
loop-x-preserved c =
    rows_more c.loop-x.invariant _ c.loop-x-test.true (sym (row-length c.args.first.now c.args.second.now c.args.t c.loop-x.x)) c.write_row.ensures

pub returns : goal.returns
returns c = rows_all c.loop-x.invariant c.loop-x-test.false
