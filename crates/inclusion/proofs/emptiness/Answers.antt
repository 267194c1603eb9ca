-- `inclusion::emptiness` meets its contract: the sheet, then the cells, then the search. Assumes nothing.
use Rattle.slices.specs.declared.Part.TheVariants.{First}
use Rattle.slices.proofs.Refusals.{was-given}
use Rattle.packed.proofs.Soundness.{sound-valid}
use Rattle.inclusion.proofs.Nothing.{searched-emptied}
use Rattle.inclusion.proofs.emptiness.Goals as goal

pub accepted_lasso-requires : goal.accepted_lasso-requires
accepted_lasso-requires c = let z = was-given _ _ c.in_ok-sizes.ensures in (sound-valid First _ z.0, z.1)

pub returns : goal.returns
returns c =
    let z = was-given _ _ c.in_ok-sizes.ensures in searched-emptied _ (sound-valid First _ z.0) _ z.0 c.accepted_lasso.ensures
