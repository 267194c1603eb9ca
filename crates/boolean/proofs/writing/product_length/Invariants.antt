-- The loops of `boolean::writing::product_length`.
use mathlib.Core.Path.{◌≡◌}
use Rattle.boolean.specs.Pieces.{product_at}
use Rattle.boolean.proofs.writing.product_length.Given as goal

abbrev pub invariant-loop-x : goal.invariant-loop-x
invariant-loop-x l = l.at ≡ product_at l.first l.second l.x
