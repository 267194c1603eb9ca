-- `wording::words::locate` meets its contract. The invariant: line and column are those of the place reached. Assumes nothing.
use mathlib.Core.Path.{sym, ◌∙◌}
use native.Mathlib.Omega.{arith}
use Rattle.std.proofs.lemmas.List.{get_or-take, length-take-le}
use Rattle.wording.proofs.Places.{position-none, position-feed, position-other}
use Rattle.wording.proofs.words.locate.Goals.{then-b-eq10, else-b-eq10}
use Rattle.wording.proofs.words.locate.Goals as goal

pub loop-b-init : goal.loop-b-init
loop-b-init c = (position-none _, omega arith, omega arith)

pub loop-b-preserved : goal.loop-b-preserved
loop-b-preserved c =
    let t = c.args.text.now in
    let i = c.loop-b.b-index in
    let e = get_or-take c.args.place t i 0 (omega (arith, length-take-le c.args.place t c.requires)) in
    elim c.if-b-eq10.branch [
      | then-b-eq10 w ↦ (
        (λ k. record { line = w.line-is k; column = w.column-is k }) ∙ position-feed t i c.loop-b.invariant.0 (sym e ∙ w.if-b-eq10.true),
        omega (arith, w.line-is),
        omega (arith, w.column-is),
      )
      | else-b-eq10 w ↦ (
        (λ k. record { line = w.line-is k; column = w.column-is k }) ∙ position-other t i c.loop-b.invariant.0 (λ x. w.if-b-eq10.false (e ∙ x)),
        omega (arith, w.line-is),
        omega (arith, w.column-is),
      )
    ]
