-- `blocks::writing::put_leading_rows` meets its contract. Assumes nothing.
use mathlib.Core.Path.{◌≡◌, ap, ◌∙◌}
use mathlib.Core.List.{List}
use Prim.Native.Nat.{ℕ, ◌+◌, ◌≤◌}
use native.Mathlib.Omega.{arith}
use lib.ListN.{length, take}
use Rattle.slices.specs.Filling.{written}
use Rattle.slices.proofs.Filling.{begun_first, written-front}
use Rattle.slices.proofs.Tables.{rows-within}
use Rattle.packed.specs.Layout.{letter_count, decode}
use Rattle.numbers.proofs.Stores.{stored-none-rows, stored_row, stored-as}
use Rattle.format.specs.Rows.{line}
use Rattle.blocks.specs.Text.{leading_values_of}
use Rattle.blocks.proofs.RowValues.{leading_length}
use borrow.Author.Rules.{rules}
use Rattle.blocks.proofs.writing.put_leading_rows.Invariants.{row}
use Rattle.blocks.proofs.writing.put_leading_rows.Goals as goal

-- the line of the numbers that were put at the start of a row
made : (sheet : List ℕ) (q : ℕ) (old : List ℕ) {new : List ℕ} {s : ℕ} → s ≡ letter_count sheet → new ≡ written (leading_values_of (decode sheet) q) old → line (take (s + 2) new) ≡ row sheet q
made sheet q old {s = s} es e =
    ap (λ (l : List ℕ). line (take (s + 2) l)) e ∙ ap line (written-front (leading_values_of (decode sheet) q) old (leading_length sheet q es))

pub loop-q-init : goal.loop-q-init
loop-q-init c = (search rules, stored-none-rows _ _ _)

pub put_row-p-requires : goal.put_row-p-requires
put_row-p-requires c =
    omega (
      arith,
      ap length (made c.args.sheet.now c.loop-q.q c.loop-q.row c.requires.1 c.leading_values.ensures),
      c.loop-q.invariant.1.next,
      rows-within c.args.n (row c.args.sheet.now) c.loop-q.q c.loop-q-test.true,
      c.requires.3,
    )

pub loop-q-preserved : goal.loop-q-preserved
loop-q-preserved c =
    let few : c.args.s ≤ 32 = omega (arith, c.requires.0.header.few_letters, c.requires.1) in
    let long = leading_length c.args.sheet.now c.loop-q.q c.requires.1 in (
      (begun_first c.leading_values.ensures (omega (arith, long, c.loop-q.invariant.0, few))).same ∙ c.loop-q.invariant.0,
      stored_row c.loop-q.q (row c.args.sheet.now) c.loop-q.invariant.1 (stored-as (made c.args.sheet.now c.loop-q.q c.loop-q.row c.requires.1 c.leading_values.ensures) c.put_row-p.ensures),
    )
