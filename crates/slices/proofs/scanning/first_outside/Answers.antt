-- `slices::scanning::first_outside` meets its contract. Assumes nothing.
use mathlib.Core.Path.{◌≡◌, ap, ◌∙◌}
use Prim.Native.Nat.{ℕ, ◌+◌, ◌-◌}
use native.Mathlib.Omega.{arith}
use lib.ListN.{take, drop}
use borrow.Author.Rules.{rules}
use borrow.Author.Tests.{tests}
use Rattle.std.proofs.lemmas.Iterator.{YieldsList-from_slice}
use Rattle.std.proofs.lemmas.Iterator.Search.{position_from_yields_List}
use Rattle.slices.specs.Scans.{outside}
use Rattle.slices.proofs.Scans.{position-first}
use Rattle.slices.proofs.scanning.first_outside.Goals as goal

pub returns : goal.returns
returns c =
    let s = c.args in
    let e : s.at + s.count - s.at ≡ s.count = omega arith in
    let part = YieldsList-from_slice _ (c.iter.ensures.rest ∙ ap (λ (n : ℕ). take n (drop s.at s.bytes.now)) e) in
    c.unwrap_or.ensures
    ∙ position-first s.low s.limit s.bytes.now s.at s.count c.requires _
    (position_from_yields_List (outside s.low s.limit) _ _ _ c.position.ensures.ran part (λ x b q k. search (rules, tests)))
