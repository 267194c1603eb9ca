-- `running_sheet::writing::put_line` meets its contract. Assumes nothing.
use native.Mathlib.Omega.{arith}
use Rattle.numbers.proofs.Stores.{stored-then, stored-length}
use Rattle.running_sheet.proofs.Measures.{line-parts}
use Rattle.running_sheet.proofs.writing.put_line.Goals as goal

pub put_start-named-requires : goal.put_start-named-requires
put_start-named-requires c = omega (arith, c.requires.2, line-parts c.args.start.now c.args.letter c.args.seconds)

pub put_small-lettered-requires : goal.put_small-lettered-requires
put_small-lettered-requires c =
    (c.requires.0, omega (arith, c.requires.2, c.put_start-named.ensures.next, stored-length c.put_start-named.ensures, line-parts c.args.start.now c.args.letter c.args.seconds))

pub put_small-requires : goal.put_small-requires
put_small-requires c =
    (c.requires.1, omega (arith, c.requires.2, c.put_start-named.ensures.next, stored-length c.put_start-named.ensures, c.put_small-lettered.ensures.next, stored-length c.put_small-lettered.ensures, line-parts c.args.start.now c.args.letter c.args.seconds))

pub returns : goal.returns
returns c =
    stored-then _ _ (stored-then _ _ c.put_start-named.ensures c.put_small-lettered.ensures) c.put_small.ensures
