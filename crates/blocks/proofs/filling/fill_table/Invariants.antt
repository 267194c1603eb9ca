-- The loops of `blocks::filling::fill_table`.
use mathlib.Core.Path.{◌≡◌}
use Prim.Native.Nat.{◌+◌, ◌*◌}
use lib.ListN.{get_or}
use Rattle.slices.specs.Tables.{tab, rows}
use Rattle.numbers.specs.Storing.{Stored}
use Rattle.blocks.proofs.filling.fill_table.Given as goal

abbrev pub invariant-loop-q : goal.invariant-loop-q
invariant-loop-q l = (l.w ≡ l.to + l.q * l.s) × (l.p ≡ l.at + (l.q * (l.s + l.head) + l.head)) × Stored l.initial.out l.to (rows l.q (λ r. tab l.s (λ a. get_or l.values (l.at + (r * (l.s + l.head) + (l.head + a))) 0))) l.out l.w
