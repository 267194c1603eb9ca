-- `inclusion::accepted_lasso` meets its contract. Assumes nothing.
use mathlib.Core.Path.{◌≡◌, ap, ◌∙◌}
use mathlib.Core.List.{List, ◌∷◌}
use Prim.Native.Nat.{ℕ, ◌+◌, ◌*◌, ◌≤◌}
use native.Mathlib.Omega.{arith}
use lib.ListN.{take, replicate}
use Rattle.packed.specs.declared.Sizes.{Sizes}
use Rattle.packed.specs.Layout.{Valid, letter_count}
use Rattle.packed.specs.Faults.{sizes_of}
use Rattle.pairing.specs.declared.PairSizes.{PairSizes}
use Rattle.inclusion.specs.Nothing.{nothing_bytes}
use Rattle.inclusion.proofs.Nothing.{nothing-built, alike-nothing, sizes-beside, searched-nothing}
use Rattle.inclusion.proofs.accepted_lasso.Goals as goal

-- the sheet as it is built
built-is : {b : List ℕ} {z : Sizes} → Valid b → z ≡ sizes_of b → take (4 + 2 * z.letters) (z.letters ∷ 1 ∷ 1 ∷ replicate 65 0) ≡ nothing_bytes (letter_count b)
built-is {z = z} V e =
    let few : z.letters ≤ 32 = omega (arith, ap (λ (z : Sizes). z.letters) e, V.header.few_letters) in
    nothing-built z.letters few ∙ ap (λ (z : Sizes). nothing_bytes z.letters) e

pub search_cells-requires : goal.search_cells-requires
search_cells-requires c =
    let p = c.requires in
    let built = built-is p.0 p.1 in
    let a : Sizes = c.args.sizes in
    let z : Sizes = sizes_of c.args.sheet.now in
    let e : ◌≡◌ {A = PairSizes} (record { letters = a.letters; first = a.states; second = 1; pairs = a.states; widest = a.widest })
    (record { letters = z.letters; first = z.states; second = 1; pairs = z.states; widest = z.widest })
    = ap (λ (z : Sizes). record { letters = z.letters; first = z.states; second = 1; pairs = z.states; widest = z.widest }) p.1 in
    (alike-nothing _ p.0 built, e ∙ sizes-beside _ p.0 built)

pub returns : goal.returns
returns c = searched-nothing c.args.sheet.now c.requires.0 _ (built-is c.requires.0 c.requires.1) c.search_cells.ensures
