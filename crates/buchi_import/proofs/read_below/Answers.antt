-- `buchi_import::read_below` meets its contract. Assumes nothing.
use Rattle.slices.proofs.Refusals.{handed}
use mathlib.Core.Path.{◌≡◌, ap, sym, ◌∙◌}
use native.Mathlib.Omega.{arith}
use lib.ListN.{length}
use Rattle.slices.specs.Refusals.{fault}
use Rattle.slices.proofs.Filling.{fill-refused, fill-given}
use Rattle.numbers.proofs.Stores.{stored-as, stored-written}
use Rattle.buchi_import.specs.Reading.{numbers_below, bytes_in}
use Rattle.buchi_import.proofs.Filled.{lost, text-lost, stocked, sheet, sheet-size, short, enough}
use Rattle.buchi_import.proofs.read_below.Goals as goal

-- the automaton, as it lies in the slices
pub sheet_len-len-requires : goal.sheet_len-len-requires
sheet_len-len-requires c =
    let h = stocked c.args.text.now c.args.n c.read_text.ensures c.requires c.in_ok-drawn.was in
    (h.few_letters, h.few_states)

pub returns-then-out-len : goal.returns-then-out-len
returns-then-out-len c =
    let t = c.args.text.now in
    fill-refused (bytes_in (numbers_below c.args.n t)) c.args.out.now (short t c.args.n c.read_text.ensures c.requires c.in_ok-drawn.was c.sheet_len-len.ensures c.if-out-len.true ∙ ap fault (sym c.refuse.ensures))

pub put_sheet-requires : goal.put_sheet-requires
put_sheet-requires c = stocked c.args.text.now c.args.n c.read_text.ensures c.requires c.in_ok-drawn.was

pub returns-in_err-drawn : goal.returns-in_err-drawn
returns-in_err-drawn c = rw (handed c.from_residual.ensures)
    (let x = numbers_below c.args.n c.args.text.now in
    fill-refused (bytes_in x) c.args.out.now (text-lost x (length c.args.out.now) (lost x (sym c.read_text.ensures.says ∙ c.in_err-drawn.was))))

pub returns : goal.returns
returns c =
    let t = c.args.text.now in
    let d = sheet t c.args.n c.read_text.ensures c.requires c.in_ok-drawn.was in
    let long : length (bytes_in (numbers_below c.args.n t)) ≡ c.sheet_len-len.result = sheet-size t c.args.n c.read_text.ensures c.requires c.in_ok-drawn.was ∙ sym c.sheet_len-len.ensures in
    fill-given (bytes_in (numbers_below c.args.n t)) (enough t c.args.n c.read_text.ensures c.requires c.in_ok-drawn.was c.sheet_len-len.ensures c.if-out-len.false) (sym long)
    (stored-written (stored-as (sym d) c.put_sheet.ensures) (omega (arith, long, c.if-out-len.false)))
