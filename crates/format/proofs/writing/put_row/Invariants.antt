-- The loops of `format::writing::put_row`.
use mathlib.Core.List.{List}
use Prim.Native.Nat.{ℕ}
use lib.ListN.{length, get_or}
use Rattle.slices.specs.Tables.{rows}
use Rattle.numbers.specs.Digits.{field}
use Rattle.numbers.specs.Storing.{Stored}
use Rattle.format.specs.Rows.{separator}
use Rattle.format.proofs.writing.put_row.Given as goal

-- the i-th number and the byte that ends it
abbrev pub fields : List ℕ → ℕ → List ℕ
fields v i = field (get_or v i 0) (separator (length v) i)

abbrev pub invariant-loop-i : goal.invariant-loop-i
invariant-loop-i l = Stored l.initial.out l.at (rows l.i (fields l.values)) l.out l.p
