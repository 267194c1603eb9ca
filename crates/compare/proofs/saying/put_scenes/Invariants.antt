-- The loops of `compare::saying::put_scenes`.
use Prim.Native.Nat.{◌+◌, ◌*◌, ◌≤◌}
use Rattle.slices.specs.Tables.{rows}
use Rattle.numbers.specs.Storing.{Stored}
use Rattle.compare.proofs.Spoken.{scene_at}
use Rattle.compare.proofs.saying.put_scenes.Given as goal

abbrev pub invariant-loop-i : goal.invariant-loop-i
invariant-loop-i l = Stored l.initial.out l.at (rows l.i (scene_at l.word)) l.out l.p × (l.p ≤ l.at + 21 * l.i)
