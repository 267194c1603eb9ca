-- `inclusion::placing::placed` meets its contract: its arms are said, so that an answer of the other kind is refused for a fact. Assumes nothing.
use mathlib.Core.Path.{ap, ◌∙◌}
use Rattle.inclusion.specs.declared.Outcome.TheVariants.{Absent, Found}
use Rattle.inclusion.specs.Placing.{joined}
use Rattle.inclusion.proofs.placing.placed.Goals as goal

pub returns-in-Absent : goal.returns-in-Absent
returns-in-Absent c = rw c.in-Absent.is (ap Absent c.join.ensures)

pub returns-in-Found : goal.returns-in-Found
returns-in-Found c = rw c.in-Found.is (ap Found (c.join-in-Found.ensures ∙ ap (joined c.in-Found.z) c.stand.ensures))
