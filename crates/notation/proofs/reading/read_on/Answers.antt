-- `notation::reading::read_on` meets its contract. Assumes nothing.
use Rattle.slices.proofs.Refusals.{handed}
use mathlib.Core.Path.{sym}
use Prim.Native.Nat.{◌+◌, ◌*◌, ◌≤◌}
use native.Mathlib.Omega.{arith}
use lib.ListN.{length}
use lib.Seq.{length-take-le}
use Rattle.notation.proofs.Opening.{few, needed, refused-rest, room, filled-rest}
use Rattle.notation.proofs.reading.read_on.Goals as goal

pub slice_bounds-read_rest-end : goal.slice_bounds-read_rest-end
slice_bounds-read_rest-end c =
    let small : (c.from-s.result ≤ 32) × (c.from-n.result ≤ 32) × (3 + c.from-n.result * (c.from-s.result + 2) ≤ 1091) × (c.timed-m.result ≤ 32) =
    few c.requires c.from-level.ensures c.from-s.ensures c.from-n.ensures c.timed-m.ensures in
    let long : 3 + c.from-n.result * (c.from-s.result + 2) ≤ length (c.args.front.now) =
    omega (arith, small.2, c.requires.front_room) in
    sym (length-take-le _ _ long)

pub read_rest-requires : goal.read_rest-requires
read_rest-requires c = needed c.requires c.from-level.ensures c.from-s.ensures c.from-n.ensures c.timed-m.ensures

pub fill_seconds-requires : goal.fill_seconds-requires
fill_seconds-requires c =
    room c.requires c.from-level.ensures c.from-s.ensures c.from-n.ensures c.timed-m.ensures c.args.seconds.now (c.read_rest.ensures c.requires.blocks.timings) c.in_ok-filled.was

pub returns-in_err-filled : goal.returns-in_err-filled
returns-in_err-filled c = rw (handed c.from_residual.ensures)
    (refused-rest c.requires c.from-level.ensures c.from-s.ensures c.from-n.ensures c.timed-m.ensures c.args.seconds.now (c.read_rest.ensures c.requires.blocks.timings) c.in_err-filled.was)

pub returns : goal.returns
returns c =
    filled-rest c.requires c.from-level.ensures c.from-s.ensures c.from-n.ensures c.timed-m.ensures c.args.seconds.now (c.read_rest.ensures c.requires.blocks.timings) c.in_ok-filled.was c.fill_seconds.ensures
