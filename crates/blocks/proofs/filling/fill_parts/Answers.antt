-- `blocks::filling::fill_parts` meets its contract. Assumes nothing.
use mathlib.Core.Path.{◌≡◌, ◌∙◌}
use mathlib.Core.List.{List}
use Prim.Native.Nat.{ℕ, ◌+◌, ◌*◌, ◌≤◌, ◌<◌}
use native.Mathlib.Omega.{arith}
use lib.ListN.{get_or}
use Rattle.slices.specs.Tables.{sum}
use Rattle.slices.proofs.Tables.{rows-within}
use Rattle.packed.specs.Layout.{part_bytes}
use Rattle.numbers.proofs.Stores.{stored-none-rows, stored_row, stored-length, stored-as}
use Rattle.blocks.specs.Text.{letters_in, states_in, size_in}
use Rattle.blocks.specs.Numbers.{family_of}
use Rattle.blocks.specs.Values.{Readable}
use Rattle.blocks.proofs.Measures.{front-few, size-read}
use Rattle.blocks.proofs.Gathered.{Body, first_part, body}
use Rattle.blocks.proofs.filling.fill_parts.Goals as goal

module _ {front parts : List ℕ} {s n : ℕ} (h : Readable front parts × (s ≡ letters_in front) × (n ≡ states_in front)) where
  few : (s ≤ 32) × (n ≤ 32) × (n * s ≤ 1024)
  few = front-few front parts h.0 s n h.1 h.2

  module _ {q : ℕ} (l : q < n) where
    less : q < states_in front
    less = omega (arith, l, h.2)

    part : {k p : ℕ} → k ≡ get_or front (3 + q * (s + 2) + 1) 0 → p ≡ sum q (size_in front) * (letters_in front + 3) → Body front parts q k p s
    part {k} {p} ek ep = body front parts h.0 s h.1 q k p less (ek ∙ size-read front s q h.1) ep

pub loop-q-init : goal.loop-q-init
loop-q-init c =
    (first_part (size_in c.args.front.now) (letters_in c.args.front.now + 3), stored-none-rows _ _ _)

pub fill_part-w-requires : goal.fill_part-w-requires
fill_part-w-requires c =
    let b = part c.requires.readable c.loop-q-test.true c.from-k.ensures c.loop-q.invariant.0 in
    record {
      at_bound = (
        omega (arith, b.low),
        (few c.requires.readable).0,
        b.few,
        omega (arith, c.loop-q.invariant.1.next, stored-length c.loop-q.invariant.1, rows-within (states_in c.args.front.now) (part_bytes (family_of c.args.front.now c.args.parts.now)) c.loop-q.q (less c.requires.readable c.loop-q-test.true), c.requires.parts_in_bounds, b.size),
        b.within,
      );
      by_index = b.steps;
      by_index_2 = b.marks;
    }

pub overflow_add-p-in-loop-q : goal.overflow_add-p-in-loop-q
overflow_add-p-in-loop-q c =
    let b = part c.requires.readable c.loop-q-test.true c.from-k.ensures c.loop-q.invariant.0 in omega (arith, b.product, b.low)

pub loop-q-preserved : goal.loop-q-preserved
loop-q-preserved c =
    let b = part c.requires.readable c.loop-q-test.true c.from-k.ensures c.loop-q.invariant.0 in
    (b.next, stored_row c.loop-q.q (part_bytes (family_of c.args.front.now c.args.parts.now)) c.loop-q.invariant.1 (stored-as b.bytes c.fill_part-w.ensures))
