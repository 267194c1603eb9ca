-- The answers of `boolean::writing::write_pairs`: part after part. Assumes nothing.
use mathlib.Core.Path.{◌≡◌, ap, ◌∙◌}
use mathlib.Core.List.{List}
use Prim.Native.Nat.{ℕ, ◌-◌, ◌*◌, ◌/◌, ◌%◌, ◌<◌}
use native.Mathlib.Omega.{arith}
use lib.ListN.{length, take, drop}
use Rattle.slices.specs.Filling.{written}
use Rattle.slices.proofs.Filling.{rows_none, row_room, row-lent, rows_more}
use Rattle.packed.specs.Layout.{state_count}
use Rattle.pairing.specs.declared.PairSizes.{PairSizes}
use Rattle.pairing.specs.Pairs.{sizes_of}
use Rattle.boolean.specs.declared.Operation.{Operation}
use Rattle.boolean.specs.Pieces.{pair_part}
use Rattle.boolean.proofs.writing.write_pairs.Goals as goal

one : (b c : List ℕ) {x : ℕ} {z : PairSizes} → z ≡ sizes_of b c → x < z.pairs → x < state_count b * state_count c
one b c e h = omega (arith, ap (λ (z : PairSizes). z.pairs) e)

-- the part at hand, by the width that the code divides by
part-is : (op : Operation) (b c : List ℕ) (x : ℕ) {z : PairSizes} → z ≡ sizes_of b c
    → pair_part op b c (x / z.second) (x % z.second) ≡ pair_part op b c (x / state_count c) (x % state_count c)
part-is op b c x e = ap (λ (z : PairSizes). pair_part op b c (x / z.second) (x % z.second)) e

pub loop-x-init : goal.loop-x-init
loop-x-init c = rows_none _ _ _ c.requires.second_in_bounds

pub slice_bounds-write_pair-count : goal.slice_bounds-write_pair-count
slice_bounds-write_pair-count c = omega (arith, row_room c.loop-x.invariant (one c.args.first.now c.args.second.now c.requires.pair.1 c.loop-x-test.true))

pub slice_bounds-write_pair-start : goal.slice_bounds-write_pair-start
slice_bounds-write_pair-start c = omega (arith, row_room c.loop-x.invariant (one c.args.first.now c.args.second.now c.requires.pair.1 c.loop-x-test.true))

pub write_pair-at-requires-clause-q_in_bounds : goal.write_pair-at-requires-clause-q_in_bounds
write_pair-at-requires-clause-q_in_bounds c =
    let s = c.args in
    omega (
      arith,
      ap length (part-is s.op s.first.now s.second.now c.loop-x.x c.requires.pair.1),
      row-lent c.loop-x.invariant (one c.args.first.now c.args.second.now c.requires.pair.1 c.loop-x-test.true),
    )

pub overflow_add-at : goal.overflow_add-at
overflow_add-at c =
    let s = c.args in
    omega (
      arith,
      c.write_pair-at.ensures.says,
      ap length (part-is s.op s.first.now s.second.now c.loop-x.x c.requires.pair.1),
      row_room c.loop-x.invariant (one c.args.first.now c.args.second.now c.requires.pair.1 c.loop-x-test.true),
      c.loop-x.invariant.begun.same,
    )

pub loop-x-preserved : goal.loop-x-preserved
loop-x-preserved c =
    let s = c.args in
    let o = c.loop-x.out in
    let e = part-is s.op s.first.now s.second.now c.loop-x.x c.requires.pair.1 in
    rows_more c.loop-x.invariant _ (one c.args.first.now c.args.second.now c.requires.pair.1 c.loop-x-test.true) (c.write_pair-at.ensures.says ∙ ap length e)
    (c.write_pair-at.ensures.fills ∙ ap (λ (l : List ℕ). written l (take (length o - c.loop-x.at) (drop c.loop-x.at o))) e)
