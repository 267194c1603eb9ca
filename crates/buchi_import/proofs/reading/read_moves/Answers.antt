-- `buchi_import::reading::read_moves` meets its contract. Assumes nothing.
use Rattle.slices.proofs.Refusals.{handed}
use mathlib.Core.Path.{refl, ap, sym, ◌∙◌}
use native.Mathlib.Omega.{arith}
use Rattle.numbers.proofs.Stores.{stored-length}
use Rattle.buchi_import.specs.Steps.{move_says}
use Rattle.buchi_import.proofs.Moving.{moving-none, moving-few, move-small, moving-more, moving-all, moving-refused}
use Rattle.buchi_import.proofs.reading.read_moves.Goals as goal

pub loop-more-init : goal.loop-more-init
loop-more-init c = (c.stands-more.ensures, c.requires, moving-none _ _ _ _ c.requires)

pub read_move-requires : goal.read_move-requires
read_move-requires c = let i = c.loop-more.invariant in let f = moving-few i.1 i.2 in (i.2.going.inside, f.0, f.1)

pub returns-in_err-step : goal.returns-in_err-step
returns-in_err-step c = rw (handed c.from_residual.ensures)
    (let i = c.loop-more.invariant in
    moving-refused i.1 i.2 (sym i.0 ∙ c.loop-more-test.true) (sym c.read_move.ensures ∙ ap move_says c.in_err-step.was) refl (stored-length i.2.stored))

pub store-m-requires : goal.store-m-requires
store-m-requires c =
    let i = c.loop-more.invariant in (
      omega (arith, i.2.going.ahead, i.2.going.inside, c.well_formed),
      omega (arith, move-small i.1 i.2 (sym c.read_move.ensures ∙ ap move_says c.in_ok-step.was)),
    )

pub counted-c-requires : goal.counted-c-requires
counted-c-requires c =
    let i = c.loop-more.invariant in
    (moving-few i.1 i.2).1

-- one transition more
pub loop-more-smaller : goal.loop-more-smaller
loop-more-smaller c =
    let i = c.loop-more.invariant in
    let m = moving-more i.1 i.2 (sym c.read_move.ensures ∙ ap move_says c.in_ok-step.was) (sym i.0 ∙ c.loop-more-test.true) c.store-m.ensures c.counted-c.ensures in
    omega (arith, m.going.ahead, m.going.inside, c.store-m.ensures.next)

pub loop-more-preserved : goal.loop-more-preserved
loop-more-preserved c =
    let i = c.loop-more.invariant in (
      c.stands-more-in-loop-more.ensures,
      i.1,
      moving-more i.1 i.2 (sym c.read_move.ensures ∙ ap move_says c.in_ok-step.was) (sym i.0 ∙ c.loop-more-test.true) c.store-m.ensures c.counted-c.ensures,
    )

pub returns : goal.returns
returns c = let i = c.loop-more.invariant in moving-all i.1 i.2 (sym i.0 ∙ c.loop-more-test.false) refl
