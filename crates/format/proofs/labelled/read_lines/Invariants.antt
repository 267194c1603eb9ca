-- The loops of `format::labelled::read_lines`.
use mathlib.Core.Path.{◌≡◌}
use Prim.Native.Nat.{◌-◌}
use lib.ListN.{length, get_or}
use Rattle.format.specs.Format.{stands}
use Rattle.format.proofs.Lined.{Lined}
use Rattle.format.proofs.labelled.read_lines.Given as goal

abbrev pub invariant-loop-more : goal.invariant-loop-more
invariant-loop-more l = (l.more ≡ stands l.text (get_or l.word 0 0) l.p) × Lined l.part l.text l.word l.column l.at l.initial.values l.values l.p l.count

abbrev pub decreases-loop-more : goal.decreases-loop-more
decreases-loop-more l = length l.text - l.count
