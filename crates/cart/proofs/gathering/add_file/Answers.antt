-- `cart::gathering::add_file` meets its contract. Assumes nothing.
use Rattle.cart.proofs.Wordings.{sourced-more}
use Rattle.cart.proofs.gathering.add_file.Goals as goal

pub returns : goal.returns
returns c =
    (c.add_named.ensures.0.count, c.add_named.ensures.0.bounded, c.add_named.ensures.1, sourced-more _ c.requires.5 c.add_named.ensures.2)
