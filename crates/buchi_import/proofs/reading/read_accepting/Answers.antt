-- `buchi_import::reading::read_accepting` meets its contract. Assumes nothing.
use Rattle.slices.proofs.Refusals.{handed}
use mathlib.Core.Path.{refl, ap, sym, ◌∙◌}
use native.Mathlib.Omega.{arith}
use Rattle.format.specs.Steps.{cell_says}
use Rattle.buchi_import.proofs.Noting.{noting-none, state-small, noting-more, noting-all, noting-refused}
use Rattle.buchi_import.proofs.reading.read_accepting.Goals as goal

pub loop-more-init : goal.loop-more-init
loop-more-init c = (c.stands-more.ensures, c.requires, noting-none _ _ _ _ c.requires)

pub read_state-requires : goal.read_state-requires
read_state-requires c = c.loop-more.invariant.2.going.inside

pub returns-in_err-state : goal.returns-in_err-state
returns-in_err-state c = rw (handed c.from_residual.ensures)
    (let i = c.loop-more.invariant in
    noting-refused i.1 i.2 (sym i.0 ∙ c.loop-more-test.true) (sym c.read_state.ensures ∙ ap cell_says c.in_err-state.was) refl i.2.noted.same)

pub overflow_add-low : goal.overflow_add-low
overflow_add-low c =
    let i = c.loop-more.invariant in
    omega (arith, state-small i.1 i.2 (sym c.read_state.ensures ∙ ap cell_says c.in_ok-state.was))

pub overflow_add-k : goal.overflow_add-k
overflow_add-k c =
    let i = c.loop-more.invariant in
    omega (arith, i.2.going.ahead, i.2.going.inside, c.well_formed)

pub loop-more-smaller : goal.loop-more-smaller
loop-more-smaller c =
    let i = c.loop-more.invariant in
    let m = noting-more i.1 i.2 (sym c.read_state.ensures ∙ ap cell_says c.in_ok-state.was) (sym i.0 ∙ c.loop-more-test.true) c.note.ensures in
    omega (arith, m.going.ahead, m.going.inside)

pub loop-more-preserved : goal.loop-more-preserved
loop-more-preserved c =
    let i = c.loop-more.invariant in (
      c.stands-more-in-loop-more.ensures,
      i.1,
      noting-more i.1 i.2 (sym c.read_state.ensures ∙ ap cell_says c.in_ok-state.was) (sym i.0 ∙ c.loop-more-test.true) c.note.ensures,
    )

pub returns : goal.returns
returns c = let i = c.loop-more.invariant in noting-all i.1 i.2 (sym i.0 ∙ c.loop-more-test.false) refl
