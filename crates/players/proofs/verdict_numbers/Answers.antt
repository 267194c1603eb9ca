-- `players::verdict_numbers` meets its contract. Assumes nothing.
use mathlib.Core.Path.{refl}
use Rattle.slices.specs.Tables.{tab}
use Rattle.players.proofs.verdict_numbers.Goals as goal

pub returns-in-Ok : goal.returns-in-Ok
unfolding tab
returns-in-Ok c = rw c.in-Ok.is refl
