-- `packed::checking::widest` meets its contract. Assumes nothing.
use mathlib.Core.Path.{◌≡◌, refl, ap₂, ◌∙◌}
use mathlib.Core.List.{List}
use Prim.Native.Nat.{ℕ, zero, suc, max, ◌+◌, ◌≤◌, ◌<◌}
use native.Mathlib.Omega.{arith}
use lib.ListN.{length, take, drop, length-drop}
use lib.Seq.{get_or-drop}
use native.Mathlib.Numerals.{add-one}
use Rattle.std.proofs.Common.{fold}
use Rattle.std.proofs.lemmas.List.Sums.{fold_more}
use Rattle.slices.specs.Extremes.{largest}
use borrow.Author.Rules.{rules}
use Rattle.packed.specs.Layout.{size_of}
use Rattle.packed.proofs.checking.widest.Goals as goal

-- cell by cell, the largest so far
largest-is : (b : List ℕ) (n : ℕ) → 2 + n ≤ length b → fold (λ a x. max a x) 0 (take n (drop 2 b)) ≡ largest n (size_of b)
unfolding largest
largest-is b zero h = refl
largest-is b (suc n) h =
    let inside : n < length (drop 2 b) = omega (arith, length-drop 2 b) in
    rw (← add-one n) (fold_more (λ a x. max a x) 0 (drop 2 b) n 0 inside ∙ ap₂ max (largest-is b n (omega arith)) (get_or-drop 2 b n 0))

pub returns : goal.returns
returns c =
    let m : c.fold.result ≡ fold (λ a x. max a x) 0 (take c.args.n (drop 2 c.args.sheet.now)) = search rules in
    m ∙ largest-is _ _ c.requires
