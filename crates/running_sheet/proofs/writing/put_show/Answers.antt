-- `running_sheet::writing::put_show` meets its contract. Assumes nothing.
use native.Mathlib.Omega.{arith}
use Rattle.numbers.proofs.Stores.{stored-then, stored-length}
use Rattle.running_sheet.proofs.Measures.{show-long}
use Rattle.running_sheet.proofs.writing.put_show.Goals as goal

pub put_lines-opened-requires : goal.put_lines-opened-requires
put_lines-opened-requires c =
    (c.requires.0, omega (arith, c.requires.2, c.put_literal-named.ensures.next, stored-length c.put_literal-named.ensures, show-long c.args.prefix.now c.args.period.now c.args.seconds.now))

pub put_lines-requires : goal.put_lines-requires
put_lines-requires c =
    (c.requires.1, omega (arith, c.requires.2, c.put_literal-named.ensures.next, stored-length c.put_literal-named.ensures, c.put_lines-opened.ensures.next, stored-length c.put_lines-opened.ensures, show-long c.args.prefix.now c.args.period.now c.args.seconds.now))

pub returns : goal.returns
returns c =
    stored-then _ _ (stored-then _ _ c.put_literal-named.ensures c.put_lines-opened.ensures) c.put_lines.ensures
