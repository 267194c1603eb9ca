-- `buchi_import::reading::read_text` meets its contract. Assumes nothing.
use Rattle.slices.proofs.Refusals.{handed}
use mathlib.Core.Path.{refl, ap, ◌∙◌}
use native.Mathlib.Omega.{arith}
use Rattle.buchi_import.specs.Reading.{moved}
use Rattle.buchi_import.proofs.Onward.{text-refused, text-read, start-refused, start-read, moves-refused, moves_read}
use Rattle.buchi_import.proofs.Inside.{moves-within}
use Rattle.buchi_import.proofs.reading.read_text.Goals as goal

-- the line of the start was read
pub read_moves-requires : goal.read_moves-requires
read_moves-requires c = (start-read c.args.limit c.args.text.now c.read_literal.ensures c.in_ok-e.was).1

pub read_rest-requires : goal.read_rest-requires
read_rest-requires c =
    let t = c.args.text.now in
    let b = start-read c.args.limit t c.read_literal.ensures c.in_ok-e.was in
    let w = moves_read c.args.limit t c.in_ok-e.e c.read_moves.ensures c.in_ok-moves.was in
    let i = moves-within c.args.limit t c.in_ok-e.e b.1 w.0 w.1 in
    (omega (arith, i.0, w.4), omega (arith, i.1, w.2, w.3))

pub returns-in_err-e : goal.returns-in_err-e
returns-in_err-e c = rw (handed c.from_residual.ensures)
    (text-refused c.args.limit c.args.text.now refl (start-refused c.args.limit c.args.text.now c.read_literal.ensures c.in_err-e.was))

pub returns-in_err-moves : goal.returns-in_err-moves
returns-in_err-moves c = rw (handed c.from_residual-in_err-moves.ensures)
    (let t = c.args.text.now in
    let b = start-read c.args.limit t c.read_literal.ensures c.in_ok-e.was in
    text-refused c.args.limit t refl (b.0 ∙ moves-refused c.args.limit t c.in_ok-e.e c.read_moves.ensures c.in_err-moves.was))

pub returns : goal.returns
returns c =
    let t = c.args.text.now in
    let b = start-read c.args.limit t c.read_literal.ensures c.in_ok-e.was in
    let w = moves_read c.args.limit t c.in_ok-e.e c.read_moves.ensures c.in_ok-moves.was in
    text-read c.args.limit t w.0 (b.0 ∙ ap (moved c.args.limit t) w.1) w.4 w.2 w.3 (c.read_moves.ensures.cells w.0 w.1) c.read_rest.ensures
