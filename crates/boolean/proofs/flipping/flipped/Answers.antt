-- The answers of `boolean::flipping::flipped`: a mark is the byte of its truth. Assumes nothing.
use mathlib.Core.Path.{◌≡◌, refl, ◌∙◌}
use mathlib.Core.Bool.{Bool, true, false, not}
use mir.Val.{bool_byte}
use lib.Dec.{eqb}
use Rattle.packed.specs.Layout.{mark}
use Rattle.boolean.proofs.flipping.flipped.Goals as goal

byte : (t : Bool) → bool_byte t ≡ mark t
byte true = refl
byte false = refl

pub returns : goal.returns
returns c = c.from.ensures ∙ byte (not (eqb c.args.m 1))
