-- The loops of `wording::words::locate`.
use mathlib.Core.Path.{◌≡◌}
use Prim.Native.Nat.{◌+◌, ◌≤◌}
use Rattle.wording.specs.Words.{position_at}
use Rattle.wording.proofs.words.locate.Given as goal

abbrev pub invariant-loop-b : goal.invariant-loop-b
invariant-loop-b l = (record { line = l.line; column = l.column } ≡ position_at l.text l.b-index) × (l.line ≤ l.b-index + 1) × (l.column ≤ l.b-index + 1)
