-- `blocks::writing::progress_values` meets its contract. Assumes nothing.
use mathlib.Core.Path.{◌≡◌, refl, ◌∙◌}
use mathlib.Core.List.{List, [], ◌∷◌}
use Prim.Native.Nat.{ℕ, ◌+◌, ◌*◌, ◌≤◌, ◌<◌}
use native.Mathlib.Omega.{arith}
use lib.ListN.{length}
use lib.Seq.{length-sets}
use Rattle.slices.proofs.Tables.{row-end}
use Rattle.packed.specs.Layout.{letter_count, state_count, size_of, progress_at_value, Valid}
use Rattle.packed.proofs.Bounds.{Body, body}
use Rattle.blocks.proofs.RowValues.{progress-row}
use Rattle.blocks.proofs.writing.progress_values.Goals as goal

-- the part of q, and its row p within the sheet
module _ (row : List ℕ) {sheet : List ℕ} {s k from q p : ℕ} (h : Valid sheet × (s ≡ letter_count sheet) × (q < state_count sheet) × (k ≡ size_of sheet q) × (from ≡ progress_at_value sheet q) × (p < k) × (s + 3 ≤ length row)) where
  part : Body sheet q from k s
  part = body sheet h.0.header h.0.exact h.2 h.4 h.3 h.1

  within : (from + p * s + s ≤ length sheet) × (from + k * s + p < length sheet)
  within = (omega (arith, part.within, row-end p k s h.5), omega (arith, part.within, h.5))

pub overflow_add-from : goal.overflow_add-from
overflow_add-from c = let b = part c.args.row.now c.requires in omega (arith, b.within, b.low)

pub overflow_add-from-2 : goal.overflow_add-from-2
overflow_add-from-2 c = let b = part c.args.row.now c.requires in omega (arith, b.within, b.low, c.requires.5)

pub bounds-sheet-from : goal.bounds-sheet-from
bounds-sheet-from c = (within c.args.row.now c.requires).1

pub overflow_add-from-3 : goal.overflow_add-from-3
overflow_add-from-3 c = omega (arith, within c.args.row.now c.requires, (part c.args.row.now c.requires).low)

pub put_nexts-requires : goal.put_nexts-requires
put_nexts-requires c = (
  (within c.args.row.now c.requires).0,
  omega arith,
  omega (arith, c.requires.0.header.few_letters, c.requires.1),
  omega (arith, c.requires.6, length-sets c.args.row.now 0 (c.args.q ∷ c.args.p ∷ c.from.result ∷ [])),
)

pub returns : goal.returns
returns c =
    c.put_nexts.ensures
    ∙ progress-row c.args.sheet.now c.args.row.now c.requires.1 c.requires.0 c.requires.2 c.requires.5 c.requires.3 c.requires.4 refl refl c.from.ensures c.requires.6
