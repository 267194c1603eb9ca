-- `blocks::seconds::put_seconds` meets its contract. Assumes nothing.
use mathlib.Core.Path.{◌≡◌, ap}
use mathlib.Core.List.{List, [], ◌∷◌}
use Prim.Native.Nat.{ℕ, ◌+◌, ◌≤◌, ◌<◌}
use native.Mathlib.Omega.{arith}
use lib.ListN.{length, get_or, take, length-append}
use lib.Seq.{length-take-le}
use Rattle.std.proofs.lemmas.List.{get_or-take}
use Rattle.slices.specs.Tables.{rows}
use Rattle.slices.proofs.Tables.{rows-within}
use Rattle.numbers.proofs.Stores.{stored-none-rows, stored_row, stored-then, stored-as}
use Rattle.format.specs.Rows.{line}
use Rattle.blocks.specs.Text.{seconds_title, timed}
use Rattle.blocks.proofs.Durations.{timed-few, title-taken}
use Rattle.blocks.proofs.seconds.put_seconds.Invariants.{row}
use Rattle.blocks.proofs.seconds.put_seconds.Goals as goal

-- the m cells that are told, and the line of one of them
module _ (level : ℕ) (w : List ℕ) {s m : ℕ} (few : s ≤ 32) (em : m ≡ timed level s) (room : timed level s ≤ length w) where
  long : (m ≤ 32) × (length (take m w) ≡ m)
  long = (omega (arith, em, timed-few level s), length-take-le m w (omega (arith, em)))

  module _ {a : ℕ} (l : a < length (take m w)) where
    small : (a < 32) × (a < m)
    small = (omega (arith, long), omega (arith, long))

    made : line (a ∷ get_or (take m w) a 0 ∷ []) ≡ row w a
    made = ap (λ (x : ℕ). line (a ∷ x ∷ [])) (get_or-take m w a 0 small.1)

pub shared_ref_as_front-put_literal : goal.shared_ref_as_front-put_literal
shared_ref_as_front-put_literal c = omega (arith, c.timed.ensures, timed-few c.args.level 14)

pub put_literal-p-requires : goal.put_literal-p-requires
put_literal-p-requires c =
    omega (
      arith,
      ap length (title-taken c.args.level c.timed.ensures),
      length-append (seconds_title c.args.level) (rows (timed c.args.level c.args.s) (row c.args.seconds.now)),
      c.requires.2,
    )

pub loop-a-init : goal.loop-a-init
loop-a-init c = stored-none-rows _ _ _

pub overflow_cast-a : goal.overflow_cast-a
overflow_cast-a c = omega (arith, (small c.args.level c.args.seconds.now c.requires.0 c.timed-m.ensures c.requires.1 c.loop-a-test.true).0)

pub put_row-p-requires : goal.put_row-p-requires
put_row-p-requires c =
    let w = c.args.seconds.now in
    let m = c.timed-m.result in
    let room : c.put_literal-p.result + length (rows m (row w)) ≤ 18446744073709551615 =
    omega (
      arith,
      c.put_literal-p.ensures.next,
      ap length (title-taken c.args.level c.timed.ensures),
      ap (λ (k : ℕ). length (rows k (row w))) c.timed-m.ensures,
      length-append (seconds_title c.args.level) (rows (timed c.args.level c.args.s) (row w)),
      c.requires.2,
    ) in
    omega (
      arith,
      ap length (made c.args.level w c.requires.0 c.timed-m.ensures c.requires.1 c.loop-a-test.true),
      c.loop-a.invariant.next,
      rows-within m (row w) c.loop-a.a (small c.args.level w c.requires.0 c.timed-m.ensures c.requires.1 c.loop-a-test.true).1,
      room,
    )

pub loop-a-preserved : goal.loop-a-preserved
loop-a-preserved c =
    stored_row c.loop-a.a (row c.args.seconds.now) c.loop-a.invariant
    (stored-as (made c.args.level c.args.seconds.now c.requires.0 c.timed-m.ensures c.requires.1 c.loop-a-test.true) c.put_row-p.ensures)

pub returns : goal.returns
returns c =
    let w = c.args.seconds.now in
    let e : c.loop-a.a ≡ timed c.args.level c.args.s =
    omega (arith, c.loop-a-test.false, c.loop-a.auto.a-end, long c.args.level w c.requires.0 c.timed-m.ensures c.requires.1, c.timed-m.ensures) in
    stored-then (seconds_title c.args.level) (rows (timed c.args.level c.args.s) (row w)) (stored-as (title-taken c.args.level c.timed.ensures) c.put_literal-p.ensures) (stored-as (ap (λ (k : ℕ). rows k (row w)) e) c.loop-a.invariant)
