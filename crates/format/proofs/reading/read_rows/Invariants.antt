-- The loops of `format::reading::read_rows`.
use mathlib.Core.Path.{◌≡◌}
use Prim.Native.Nat.{◌*◌}
use Rattle.format.specs.Rows.{row, numbered}
use Rattle.format.proofs.Repeating.{Partly}
use Rattle.format.proofs.reading.read_rows.Given as goal

abbrev pub invariant-loop-i : goal.invariant-loop-i
invariant-loop-i l = (l.w ≡ l.i * l.width) × Partly l.part l.text (λ j. row (numbered l.r l.turn j)) l.count l.at l.initial.values l.values l.p l.w l.i
