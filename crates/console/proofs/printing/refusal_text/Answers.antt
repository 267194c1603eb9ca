-- `console::printing::refusal_text` meets its contract. Assumes nothing.
use mathlib.Core.Path.{◌∙◌}
use Rattle.console.proofs.Printed.{shows-as, shows_more, refusal-joined}
use Rattle.console.proofs.printing.refusal_text.Goals as goal

pub returns : goal.returns
returns c =
    shows-as (refusal-joined c.args.r (c.from.ensures ∙ c.number.ensures))
    (shows_more _ _ (shows_more _ _ (shows_more _ _ c.put-at.ensures c.put_number-at.ensures.0) c.put_part-at.ensures.0) c.put_number-at-2.ensures.0)
