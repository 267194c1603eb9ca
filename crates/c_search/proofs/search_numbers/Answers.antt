-- `c_search::search_numbers` meets its contract. Assumes nothing.
use mathlib.Core.Path.{◌≡◌}
use Rattle.slices.specs.Tables.{tab}
use Rattle.inclusion.specs.declared.Outcome.TheVariants.{Absent, Found}
use Rattle.c_search.proofs.search_numbers.Goals as goal

pub returns-in-Ok-Absent : goal.returns-in-Ok-Absent
unfolding tab
returns-in-Ok-Absent c =
    let a = c.in-Ok-Absent in
    let e : a.field-0 ≡ Absent a.z = rw a.is at a.field-0-is in
    rw (a.is, e) c.given_numbers.ensures

pub returns-in-Ok-Found : goal.returns-in-Ok-Found
unfolding tab
returns-in-Ok-Found c =
    let a = c.in-Ok-Found in
    let e : a.field-0 ≡ Found a.z = rw a.is at a.field-0-is in
    rw (a.is, e) c.given_numbers-in-Ok-Found.ensures
