-- `numbers::writing::put` meets its contract. Assumes nothing.
use Rattle.numbers.proofs.Stores.{stored-byte, stored_past, stored-new}
use Rattle.numbers.proofs.writing.put.Goals as goal
use Rattle.numbers.proofs.writing.put.Goals.{then-at-out, else-at-out}

pub returns : goal.returns
returns c = elim c.if-at-out.branch [
  | then-at-out w ↦ stored-new w.out-is (stored-byte _ _ _)
  | else-at-out w ↦ stored-new w.out-is (stored_past _ _ _ w.if-at-out.false)
]
