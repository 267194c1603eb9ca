-- The loops of `buchi_import::reading::read_moves`.
use mathlib.Core.Path.{◌≡◌}
use Prim.Native.Nat.{◌-◌, ◌≤◌}
use lib.ListN.{length}
use Rattle.format.specs.Format.{stands}
use Rattle.buchi_import.proofs.Moving.{Moving}
use Rattle.buchi_import.proofs.reading.read_moves.Given as goal

abbrev pub invariant-loop-more : goal.invariant-loop-more
invariant-loop-more l = (l.more ≡ stands l.text 115 l.p) × (l.at ≤ length l.text) × Moving l.limit l.text l.at l.initial.targets l.targets l.p l.m l.c

abbrev pub decreases-loop-more : goal.decreases-loop-more
decreases-loop-more l = length l.text - l.m
