-- The loops of `blocks::filling::fill_parts`.
use mathlib.Core.Path.{◌≡◌}
use Prim.Native.Nat.{◌+◌, ◌*◌}
use Rattle.slices.specs.Tables.{rows, sum}
use Rattle.packed.specs.Layout.{part_bytes}
use Rattle.numbers.specs.Storing.{Stored}
use Rattle.blocks.specs.Text.{letters_in, size_in}
use Rattle.blocks.specs.Numbers.{family_of}
use Rattle.blocks.proofs.filling.fill_parts.Given as goal

abbrev pub invariant-loop-q : goal.invariant-loop-q
invariant-loop-q l = (l.p ≡ sum l.q (size_in l.front) * (letters_in l.front + 3)) × Stored l.initial.out l.to (rows l.q (part_bytes (family_of l.front l.parts))) l.out l.w
