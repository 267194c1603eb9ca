-- `packed::walking::walk` meets its contract: after each letter it stands where the walk so far leads. Assumes nothing.
use mathlib.Core.Path.{◌∙◌}
use Rattle.fdfa.proofs.Words.{walk-on}
use Rattle.packed.specs.Columns.{column_step}
use Rattle.packed.proofs.walking.walk.Goals as goal

pub loop-a-preserved : goal.loop-a-preserved
loop-a-preserved c =
    let a = c.loop-a in c.step-q.ensures ∙ walk-on (column_step c.args.table.now) _ c.args.word.now a.a-index c.loop-a-test.true a.invariant c.from.ensures
