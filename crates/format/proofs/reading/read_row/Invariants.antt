-- The loops of `format::reading::read_row`.
use Prim.Native.Nat.{ℕ}
use Rattle.format.specs.declared.Row.{Row}
use Rattle.format.specs.Format.{Format}
use Rattle.format.specs.Rows.{separator, column_of, cell}
use Rattle.format.proofs.Repeating.{Partly}
use Rattle.format.proofs.reading.read_row.Given as goal

abbrev pub cells : Row → ℕ → Format
cells r i = cell (column_of r i) (separator r.count i)

abbrev pub invariant-loop-i : goal.invariant-loop-i
invariant-loop-i l = Partly l.part l.text (cells l.r) l.count l.at l.initial.values l.values l.p l.i l.i
