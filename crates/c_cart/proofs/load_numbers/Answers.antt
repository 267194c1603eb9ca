-- `c_cart::load_numbers` meets its contract. Assumes nothing.
use Rattle.std.proofs.Common.{rules}
use Rattle.slices.specs.Tables.{tab}
use Rattle.c_cart.proofs.load_numbers.Goals as goal

pub returns-in-Ok-Loaded : goal.returns-in-Ok-Loaded
unfolding tab
returns-in-Ok-Loaded c = search rules

pub returns-in-Ok-Rejected : goal.returns-in-Ok-Rejected
unfolding tab
returns-in-Ok-Rejected c = search rules
