-- `buchi_import::single::read_target` meets its contract. Assumes nothing.
use Rattle.slices.proofs.Refusals.{handed}
use mathlib.Core.Path.{ap, sym, ◌∙◌}
use mathlib.Core.List.{[], ◌∷◌}
use Rattle.format.specs.Format.{after}
use Rattle.format.specs.Steps.{cell_says}
use Rattle.buchi_import.proofs.single.read_target.Goals as goal

pub returns-in_err-target : goal.returns-in_err-target
returns-in_err-target c = rw (handed c.from_residual.ensures)
    (sym (ap (after (c.args.a ∷ c.args.q ∷ [])) (sym c.read_last.ensures ∙ ap cell_says c.in_err-target.was)))

pub returns : goal.returns
returns c =
    sym (ap (after (c.args.a ∷ c.args.q ∷ [])) (sym c.read_last.ensures ∙ ap cell_says c.in_ok-target.was))
