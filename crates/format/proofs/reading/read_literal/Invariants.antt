-- The loops of `format::reading::read_literal`.
use Rattle.std.specs.Prelude.{Ok}
use mathlib.Core.Path.{◌≡◌}
use mathlib.Core.List.{[]}
use lib.ListN.{get_or}
use Rattle.format.specs.Format.{done, byte, reading, each}
use Rattle.format.proofs.reading.read_literal.Given as goal

abbrev pub invariant-loop-c : goal.invariant-loop-c
invariant-loop-c l = reading l.part l.text (each l.c-index (λ j. byte (get_or l.due j 0) done)) l.at ≡ Ok (record { values = []; next = l.p })
