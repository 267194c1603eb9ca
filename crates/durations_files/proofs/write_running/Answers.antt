-- `durations_files::write_running` meets its contract. Assumes nothing.
use Rattle.slices.proofs.Refusals.{handed}
use Rattle.lasso_text.proofs.Rooms.{read-refused, read-filled}
use Rattle.durations_files.proofs.Running.{running-unread, running-read}
use Rattle.durations_files.proofs.write_running.Goals as goal

pub slice_bounds-opening-end : goal.slice_bounds-opening-end
slice_bounds-opening-end c = (read-filled c.read.ensures c.in_ok-lengths.was).1

pub slice_bounds-period-end : goal.slice_bounds-period-end
slice_bounds-period-end c = (read-filled c.read.ensures c.in_ok-lengths.was).2

pub returns-in_err-lengths : goal.returns-in_err-lengths
returns-in_err-lengths c = rw (handed c.from_residual.ensures)
    (running-unread c.args.seconds.now c.args.show.now (read-refused c.read.ensures c.in_err-lengths.was))

pub returns : goal.returns
returns c =
    let f = read-filled c.read.ensures c.in_ok-lengths.was in
    running-read c.args.seconds.now c.args.show.now f.0 f.3 f.4 c.requires c.write.ensures
