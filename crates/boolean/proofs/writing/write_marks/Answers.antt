-- The answers of `boolean::writing::write_marks`. Assumes nothing.
use mathlib.Core.Path.{ap₂, ◌∙◌}
use mathlib.Core.Bool.{Bool}
use native.Mathlib.Omega.{arith}
use lib.Seq.{length-take-le}
use Rattle.slices.proofs.Filling.{filling-more}
use Rattle.packed.specs.Layout.{mark}
use Rattle.boolean.specs.Operations.{op_of}
use Rattle.boolean.proofs.Cells.{lent_none, lent_all}
use Rattle.boolean.proofs.writing.write_marks.Goals as goal

pub loop-x-init : goal.loop-x-init
loop-x-init c = lent_none _ _ _ c.requires.1

pub loop-x-preserved : goal.loop-x-preserved
loop-x-preserved c =
    let op = c.args.op in
    filling-more _ c.loop-x.invariant (omega (arith, length-take-le _ _ c.requires.1))
    (c.joined.ensures ∙ ap₂ (λ (a b : Bool). mark (op_of op a b)) c.is_marked-a.ensures c.is_marked-b.ensures)

pub returns : goal.returns
returns c = lent_all _ c.loop-x.invariant (omega (arith, length-take-le _ _ c.requires.1))
