-- `console::printing::put_part` meets its contract: the check finds the other arms, and this one is said so that a part misnamed is refused for a
-- fact. Assumes nothing.
use Rattle.slices.specs.declared.Part.TheVariants.{Out}
use Rattle.console.proofs.Printed.{part-shown}
use Rattle.console.proofs.printing.put_part.Goals as goal

pub returns-in-Out : goal.returns-in-Out
returns-in-Out c = part-shown Out c.in-Out.is c.put-in-Out.ensures
