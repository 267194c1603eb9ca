-- `blocks::writing::put_part` meets its contract. Assumes nothing.
use mathlib.Core.Path.{◌≡◌, ap, ◌∙◌}
use mathlib.Core.List.{List}
use Prim.Native.Nat.{ℕ, ◌+◌, ◌≤◌}
use native.Mathlib.Omega.{arith}
use lib.ListN.{length, take}
use Rattle.slices.specs.Filling.{written}
use Rattle.slices.proofs.Filling.{begun_first, written-front}
use Rattle.slices.proofs.Tables.{rows-within}
use Rattle.packed.specs.Layout.{letter_count, size_of, decode}
use Rattle.numbers.proofs.Stores.{stored-none-rows, stored_row, stored-as}
use Rattle.format.specs.Rows.{line}
use Rattle.blocks.specs.Text.{progress_values_of}
use Rattle.blocks.proofs.RowValues.{progress-length}
use borrow.Author.Rules.{rules}
use Rattle.blocks.proofs.writing.put_part.Invariants.{row}
use Rattle.blocks.proofs.writing.put_part.Goals as goal

-- the line of the numbers that were put at the start of a row
made : (sheet : List ℕ) (q p : ℕ) (old : List ℕ) {new : List ℕ} {s : ℕ} → s ≡ letter_count sheet → new ≡ written (progress_values_of (decode sheet) q p) old → line (take (s + 3) new) ≡ row sheet q p
made sheet q p old {s = s} es e =
    ap (λ (l : List ℕ). line (take (s + 3) l)) e ∙ ap line (written-front (progress_values_of (decode sheet) q p) old (progress-length sheet q p es))

pub loop-p-init : goal.loop-p-init
loop-p-init c = (search rules, stored-none-rows _ _ _)

pub put_row-r-requires : goal.put_row-r-requires
put_row-r-requires c =
    omega (
      arith,
      ap length (made c.args.sheet.now c.args.q c.loop-p.p c.loop-p.row c.requires.1 c.progress_values.ensures),
      c.loop-p.invariant.1.next,
      rows-within (size_of c.args.sheet.now c.args.q) (row c.args.sheet.now c.args.q) c.loop-p.p (omega (arith, c.loop-p-test.true, c.size-k.ensures)),
      c.requires.3,
    )

pub loop-p-preserved : goal.loop-p-preserved
loop-p-preserved c =
    let few : c.args.s ≤ 32 = omega (arith, c.requires.0.header.few_letters, c.requires.1) in
    let long = progress-length c.args.sheet.now c.args.q c.loop-p.p c.requires.1 in (
      (begun_first c.progress_values.ensures (omega (arith, long, c.loop-p.invariant.0, few))).same ∙ c.loop-p.invariant.0,
      stored_row c.loop-p.p (row c.args.sheet.now c.args.q) c.loop-p.invariant.1 (stored-as (made c.args.sheet.now c.args.q c.loop-p.p c.loop-p.row c.requires.1 c.progress_values.ensures) c.put_row-r.ensures),
    )
