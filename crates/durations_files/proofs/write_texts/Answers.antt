-- `durations_files::write_texts` meets its contract. Assumes nothing.
use Rattle.slices.proofs.Refusals.{handed}
use mathlib.Core.Path.{sym}
use lib.Seq.{length-take-le}
use Rattle.sheet_forms.proofs.Taken.{was-refused-for, was-filled-with}
use Rattle.durations_files.specs.Decided.{cells_in}
use Rattle.durations_files.proofs.Decisions.{cells-unread, cells-read}
use Rattle.durations_files.proofs.write_texts.Goals as goal

pub slice_bounds-cells-end : goal.slice_bounds-cells-end
slice_bounds-cells-end c = (was-filled-with _ c.read_cells.ensures c.in_ok-count.was).0

pub slice_bounds-write_running-end : goal.slice_bounds-write_running-end
slice_bounds-write_running-end c = sym (length-take-le _ _ (was-filled-with _ c.read_cells.ensures c.in_ok-count.was).0)

pub returns-in_err-count : goal.returns-in_err-count
returns-in_err-count c = rw (handed c.from_residual.ensures)
    (cells-unread (cells_in c.args.text.now) c.args.show.now (was-refused-for _ c.read_cells.ensures c.in_err-count.was))

pub returns : goal.returns
returns c =
    cells-read (cells_in c.args.text.now) c.args.show.now (was-filled-with _ c.read_cells.ensures c.in_ok-count.was).1 c.write_running.ensures
