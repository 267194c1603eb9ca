-- `inclusion::compare` meets its contract: the sheets, then the cells, then the search. Assumes nothing.
use Rattle.slices.proofs.Refusals.{was-given}
use Rattle.pairing.proofs.Within.{sound-alike}
use Rattle.inclusion.proofs.Comparing.{searched-compared}
use Rattle.inclusion.proofs.compare.Goals as goal

pub search_cells-requires : goal.search_cells-requires
search_cells-requires c = let z = was-given _ _ c.in_ok-sizes.ensures in (sound-alike _ _ z.0, z.1)

pub returns : goal.returns
returns c =
    let z = was-given _ _ c.in_ok-sizes.ensures in searched-compared (sound-alike _ _ z.0) _ z.0 c.search_cells.ensures
