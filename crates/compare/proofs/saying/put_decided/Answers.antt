-- `compare::saying::put_decided` meets its contract. Assumes nothing.
use Rattle.console.proofs.Printed.{shows-none, stored-shows}
use Rattle.compare.proofs.saying.put_decided.Goals as goal

pub returns-then-not-explain : goal.returns-then-not-explain
returns-then-not-explain c = rw c.if-not-explain.true (shows-none c.args.out.now)

pub returns-in-Absent : goal.returns-in-Absent
returns-in-Absent c =
    rw (c.if-not-explain.false, c.in-Absent.is) (stored-shows {room = 196608} c.put_contained.ensures.0 c.put_contained.ensures.1 c.requires.5)

pub returns-in-Found : goal.returns-in-Found
returns-in-Found c =
    rw (c.if-not-explain.false, c.in-Found.is) (stored-shows {room = 196608} c.put_missing.ensures.0 c.put_missing.ensures.1 c.requires.5)
