-- `format::reading::byte` meets its contract. Assumes nothing.
use Rattle.std.specs.Prelude.{Err}
use mathlib.Core.Path.{ap, sym, ◌∙◌}
use Rattle.format.specs.Steps.{placed}
use Rattle.format.proofs.Steps.{byte_past, byte-here, byte-other}
use Rattle.format.proofs.reading.byte.Goals as goal

pub returns-then-text-at : goal.returns-then-text-at
returns-then-text-at c =
    ap Err c.refuse.ensures ∙ sym (ap placed (byte_past c.args.part c.args.text.now c.args.c c.args.at c.if-text-at.true))

pub returns-then-text-at-2 : goal.returns-then-text-at-2
returns-then-text-at-2 c =
    sym (ap placed (byte-here c.args.part c.args.text.now c.args.c c.args.at c.if-text-at.false c.if-text-at-2.true))

pub returns : goal.returns
returns c =
    ap Err c.refuse-2.ensures ∙ sym (ap placed (byte-other c.args.part c.args.text.now c.args.c c.args.at c.if-text-at.false c.if-text-at-2.false))
