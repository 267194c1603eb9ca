-- `buchi_import::import` meets its contract. Assumes nothing.
use Rattle.slices.proofs.Refusals.{handed}
use mathlib.Core.Path.{ap, sym, ◌∙◌}
use lib.ListN.{length}
use Rattle.slices.proofs.Filling.{fill-refused}
use Rattle.buchi_import.specs.Reading.{numbers_below, again, numbers_of, bytes_in, bytes_of, read_fault}
use Rattle.buchi_import.proofs.Filled.{lost, sized, text-lost, fills-again}
use Rattle.buchi_import.proofs.import.Goals as goal

pub read_below-requires : goal.read_below-requires
read_below-requires c =
    let w = sized (numbers_below 1000 c.args.text.now) (sym c.judge.ensures ∙ c.in_ok-drawn.was) in
    (w.0, w.1, w.3)

pub returns-in_err-drawn : goal.returns-in_err-drawn
unfolding numbers_of read_fault bytes_of
returns-in_err-drawn c = rw (handed c.from_residual.ensures)
    (let t = c.args.text.now in
    fill-refused (bytes_in (numbers_of t)) c.args.out.now (text-lost (numbers_of t) (length c.args.out.now) (ap (again t) (lost (numbers_below 1000 t) (sym c.judge.ensures ∙ c.in_err-drawn.was)))))

pub returns : goal.returns
unfolding read_fault bytes_of
returns c =
    let w = sized (numbers_below 1000 c.args.text.now) (sym c.judge.ensures ∙ c.in_ok-drawn.was) in
    fills-again c.args.text.now (w.0, w.1, w.3) c.read_below.ensures
