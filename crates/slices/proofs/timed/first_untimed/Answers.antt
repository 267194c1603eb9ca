-- `slices::timed::first_untimed` meets its contract. Assumes nothing.
use mathlib.Core.Path.{◌∙◌}
use native.Mathlib.Omega.{arith}
use borrow.Author.Rules.{rules}
use borrow.Author.Tests.{tests}
use Rattle.std.proofs.lemmas.Iterator.{YieldsList-from_slice}
use Rattle.std.proofs.lemmas.Iterator.Search.{position_from_yields_List}
use Rattle.slices.specs.Scans.{outside}
use Rattle.slices.proofs.Scans.{position-first}
use Rattle.slices.proofs.timed.first_untimed.Goals as goal

pub returns : goal.returns
returns c =
    let s = c.args in
    c.unwrap_or.ensures
    ∙ position-first 1 1000 s.seconds.now 0 s.count (omega arith) _
    (position_from_yields_List (outside 1 1000) _ _ _ c.position.ensures.ran (YieldsList-from_slice _ c.iter.ensures.rest) (λ x b q k. search (rules, tests)))
