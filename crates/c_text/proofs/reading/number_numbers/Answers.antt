-- `c_text::reading::number_numbers` meets its contract. Assumes nothing.
use Rattle.std.proofs.Common.{rules}
use Rattle.slices.specs.Tables.{tab}
use Rattle.c_text.proofs.reading.number_numbers.Goals as goal

pub returns-in-Ok : goal.returns-in-Ok
unfolding tab
returns-in-Ok c = search rules

pub returns-in-Err : goal.returns-in-Err
unfolding tab
returns-in-Err c = search rules
