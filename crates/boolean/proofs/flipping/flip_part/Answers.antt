-- The answers of `boolean::flipping::flip_part`: the next states, then the marks. Assumes nothing.
use mathlib.Core.Path.{◌≡◌, ap, ◌∙◌}
use mathlib.Core.List.{List}
use Prim.Native.Nat.{ℕ, ◌-◌}
use native.Mathlib.Omega.{arith}
use lib.ListN.{length, take, drop, length-drop}
use lib.Seq.{length-take-le}
use Rattle.slices.proofs.Filling.{rest-lent, begun_first, begun_more}
use Rattle.slices.specs.Filling.{written}
use Rattle.slices.specs.Tables.{tab}
use Rattle.slices.proofs.Tables.{length-tab}
use Rattle.boolean.specs.Pieces.{flipped_mark}
use Rattle.boolean.proofs.flipping.flip_part.Goals as goal

-- the marks, as they are lent, are what stands behind the next states
flipped-are : (part : List ℕ) (count : ℕ)
    → tab (length (take (length part - count) (drop count part))) (flipped_mark (take (length part - count) (drop count part)))
    ≡ tab (length part - count) (flipped_mark (drop count part))
flipped-are part count =
    ap (λ (l : List ℕ). tab (length l) (flipped_mark l)) (rest-lent part count) ∙ ap (λ (k : ℕ). tab k (flipped_mark (drop count part))) (length-drop count part)

pub returns : goal.returns
returns c =
    let s = c.args in
    let marks = flipped_mark (drop s.count s.part.now) in
    let k = length s.part.now - s.count in
    let o = c.copy.new.out in
    let first : length (take s.count s.part.now) ≡ s.count = length-take-le _ _ c.requires.0 in
    let begun = begun_first c.copy.ensures (omega (arith, first, c.requires.0, c.requires.1)) in
    (begun_more (tab k marks) _ begun first (omega (arith, length-tab k marks, c.requires.0, c.requires.1))
    (c.flip_marks.ensures ∙ ap (λ (l : List ℕ). written l (take (length o - s.count) (drop s.count o))) (flipped-are s.part.now s.count))).cells
