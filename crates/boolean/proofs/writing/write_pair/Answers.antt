-- The answers of `boolean::writing::write_pair`: the table, then the marks. Assumes nothing.
use mathlib.Core.Path.{◌≡◌, ap, sym, subst₂, ◌∙◌}
use mathlib.Core.List.{List, ◌++◌}
use Prim.Native.Nat.{ℕ, ◌+◌, ◌*◌, ◌≤◌}
use native.Mathlib.Omega.{arith}
use lib.ListN.{length}
use Rattle.slices.specs.Filling.{written}
use Rattle.slices.specs.Tables.{tab, table}
use Rattle.slices.proofs.Tables.{length-tab, length-table}
use Rattle.slices.proofs.Filling.{begun_first, begun_more, lent_length}
use Rattle.packed.specs.Layout.{letter_count, size_of}
use Rattle.pairing.specs.declared.Beside.{Beside}
use Rattle.pairing.specs.Pairs.{next_pair_of, Steps, MarksRead}
use Rattle.pairing.proofs.Within.{progress-steps, marks-read}
use Rattle.boolean.specs.Pieces.{pair_mark, pair_part}
use Rattle.boolean.proofs.Extent.{pair-length}
use Rattle.boolean.proofs.writing.write_pair.Goals as goal
use Prim.Native.Nat.{◌<◌}
use Rattle.packed.specs.Layout.{state_count}
use Rattle.pairing.specs.Pairs.{progress_of, marks_of}
use Rattle.boolean.specs.declared.Operation.{Operation}
use Rattle.boolean.specs.Operations.{Pair}

module _ {b c : List ℕ} (P : Pair b c) {p q : ℕ} (hp : p < state_count b) (hq : q < state_count c) {k : ℕ} {t : Beside} (ek : k ≡ size_of b p) (et : t ≡ progress_of b c p q) where
  -- the counts, in the sheets' own terms
  count-is : k * t.width ≡ size_of b p * size_of c q
  count-is = λ i. ek i * (et i).width

  letters-is : t.letters ≡ letter_count b
  letters-is = ap (λ (t : Beside). t.letters) et

  few : k * t.width ≤ 32
  few = omega (arith, count-is, P.few_progress p q hp hq)

  part_length : (op : Operation) → k * t.width * t.letters + k * t.width ≡ length (pair_part op b c p q)
  part_length op = (λ i. count-is i * letters-is i + count-is i) ∙ sym (pair-length op b c p q)

  steps : Steps b c t (k * t.width)
  steps = subst₂ (λ (t : Beside) (m : ℕ). Steps b c t m) (sym et) (sym count-is) (progress-steps P.alike p q hp hq)

  module _ {m : Beside} (em : m ≡ marks_of b c p q) where
    marks-count : k * m.width ≡ k * t.width
    marks-count = (λ i. ek i * (em i).width) ∙ sym count-is

    reads : MarksRead b c m k
    reads = subst₂ (λ (m : Beside) (k : ℕ). MarksRead b c m k) (sym em) (sym ek) (marks-read P.alike p q hp hq)

    -- what is written is the pair's part
    part-is : (op : Operation) → table (k * t.width) t.letters (next_pair_of b c t) ++ tab (k * m.width) (pair_mark op b c m) ≡ pair_part op b c p q
    part-is op = λ i. table (ek i * (et i).width) (et i).letters (next_pair_of b c (et i)) ++ tab (ek i * (em i).width) (pair_mark op b c (em i))

pub write_table-requires : goal.write_table-requires
write_table-requires c =
    let P = c.requires.pair in
    let k = c.size-size.ensures in
    let t = c.progress-t.ensures in
    (steps P.0 P.1 P.2 k t, few P.0 P.1 P.2 k t, omega (arith, part_length P.0 P.1 P.2 k t c.args.op, c.requires.q_in_bounds))

pub slice_bounds-write_marks-count : goal.slice_bounds-write_marks-count
slice_bounds-write_marks-count c =
    let P = c.requires.pair in
    let l = part_length P.0 P.1 P.2 c.size-size.ensures c.progress-t.ensures c.args.op in
    let n = length-table (c.size-size.result * c.progress-t.result.width) c.progress-t.result.letters (next_pair_of c.args.first.now c.args.second.now c.progress-t.result) in
    omega (arith, (begun_first c.write_table.ensures (omega (arith, n, l, c.requires.q_in_bounds))).same, l, c.requires.q_in_bounds)

pub slice_bounds-write_marks-start : goal.slice_bounds-write_marks-start
slice_bounds-write_marks-start c =
    let P = c.requires.pair in
    let l = part_length P.0 P.1 P.2 c.size-size.ensures c.progress-t.ensures c.args.op in
    let n = length-table (c.size-size.result * c.progress-t.result.width) c.progress-t.result.letters (next_pair_of c.args.first.now c.args.second.now c.progress-t.result) in
    omega (arith, (begun_first c.write_table.ensures (omega (arith, n, l, c.requires.q_in_bounds))).same, l, c.requires.q_in_bounds)

pub write_marks-requires : goal.write_marks-requires
write_marks-requires c =
    let P = c.requires.pair in
    let k = c.size-size.ensures in
    let t = c.progress-t.ensures in
    let l = part_length P.0 P.1 P.2 k t c.args.op in
    let n = length-table (c.size-size.result * c.progress-t.result.width) c.progress-t.result.letters (next_pair_of c.args.first.now c.args.second.now c.progress-t.result) in
    let g = begun_first c.write_table.ensures (omega (arith, n, l, c.requires.q_in_bounds)) in (
      reads P.0 P.1 P.2 k t c.marks-m.ensures,
      omega (
        arith,
        lent_length {a = c.size-size.result * c.progress-t.result.width * c.progress-t.result.letters} g (omega (arith, l, c.requires.q_in_bounds)),
        marks-count P.0 P.1 P.2 k t c.marks-m.ensures,
        l,
        c.requires.q_in_bounds,
      ),
    )

pub returns-clause-says : goal.returns-clause-says
returns-clause-says c = let P = c.requires.pair in part_length P.0 P.1 P.2 c.size-size.ensures c.progress-t.ensures c.args.op

pub returns-clause-fills : goal.returns-clause-fills
returns-clause-fills c =
    let P = c.requires.pair in
    let k = c.size-size.ensures in
    let t = c.progress-t.ensures in
    let op = c.args.op in
    let l = part_length P.0 P.1 P.2 k t op in
    let n = length-table (c.size-size.result * c.progress-t.result.width) c.progress-t.result.letters (next_pair_of c.args.first.now c.args.second.now c.progress-t.result) in
    let g = begun_first c.write_table.ensures (omega (arith, n, l, c.requires.q_in_bounds)) in
    let marks = tab (c.size-size.result * c.marks-m.result.width) (pair_mark op c.args.first.now c.args.second.now c.marks-m.result) in
    let m = length-tab (c.size-size.result * c.marks-m.result.width) (pair_mark op c.args.first.now c.args.second.now c.marks-m.result) in
    (begun_more marks _ g n (omega (arith, m, marks-count P.0 P.1 P.2 k t c.marks-m.ensures, l, c.requires.q_in_bounds)) c.write_marks.ensures).cells
    ∙ ap (λ (x : List ℕ). written x c.args.out.now) (part-is P.0 P.1 P.2 k t c.marks-m.ensures op)
