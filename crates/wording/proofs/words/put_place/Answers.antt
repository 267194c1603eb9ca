-- `wording::words::put_place` meets its contract. Assumes nothing.
use Rattle.wording.proofs.Worded.{placed-bytes, placed_past, placed-line}
use Rattle.wording.proofs.words.put_place.Goals as goal

pub returns-then-not-lined : goal.returns-then-not-lined
returns-then-not-lined c =
    placed-bytes c.args.text.now c.args.lined c.args.place c.if-not-lined.true c.put_byte.ensures

pub returns-then-text-place : goal.returns-then-text-place
returns-then-text-place c =
    placed_past c.args.text.now c.args.lined c.args.place c.if-not-lined.false c.if-text-place.true c.put_byte-then-text-place.ensures

pub returns : goal.returns
returns c =
    placed-line c.args.text.now c.args.lined c.args.place c.if-not-lined.false c.if-text-place.false c.locate.ensures c.put_line.ensures
