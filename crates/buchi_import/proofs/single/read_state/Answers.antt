-- `buchi_import::single::read_state` meets its contract. Assumes nothing.
use mathlib.Core.Path.{◌∙◌}
use mathlib.Core.List.{[], ◌∷◌}
use Rattle.slices.specs.declared.Part.TheVariants.{First}
use Rattle.format.specs.Format.{literal}
use Rattle.format.proofs.Lined.{chosen-then}
use Rattle.buchi_import.specs.Reading.{rising, accepting_state}
use Rattle.buchi_import.proofs.single.read_state.Goals as goal

pub returns : goal.returns
unfolding accepting_state
returns c =
    chosen-then First c.args.text.now (91 ∷ []) (rising c.args.low c.args.limit) 93 c.args.at (λ vs. literal (10 ∷ [])) c.requires
    (c.rising.ensures ∙ (λ i. rising c.args.low c.args.limit (c.peek-v.ensures i))) c.read_last.ensures
