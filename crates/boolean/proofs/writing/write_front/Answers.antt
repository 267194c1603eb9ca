-- The answers of `boolean::writing::write_front`: two counts, the sizes, the leading table. Assumes nothing.
use mathlib.Core.Path.{◌≡◌, refl, ap, sym, subst₂, ◌∙◌}
use mathlib.Core.List.{List, [], ◌∷◌, ◌++◌}
use Prim.Native.Nat.{ℕ, ◌+◌, ◌*◌, ◌≤◌}
use native.Mathlib.Omega.{arith}
use lib.ListN.{length, set, length-append}
use Rattle.slices.specs.Filling.{written}
use Rattle.slices.specs.Tables.{tab, table}
use Rattle.slices.proofs.Tables.{length-tab, length-table}
use Rattle.slices.proofs.Filling.{Begun, begun-none, begun-cell, begun_more, lent_length}
use Rattle.pairing.specs.declared.Beside.{Beside}
use Rattle.pairing.specs.declared.PairSizes.{PairSizes}
use Rattle.pairing.specs.Pairs.{next_pair_of, Steps}
use Rattle.pairing.proofs.Within.{lead-steps}
use Rattle.boolean.specs.Pieces.{pair_size, product_front}
use Rattle.boolean.proofs.Extent.{front-few}
use Rattle.boolean.proofs.writing.write_front.Goals as goal
use Rattle.pairing.specs.Pairs.{sizes_of, leads_of}

begun-counts : (y n : ℕ) (out : List ℕ) → 2 ≤ length out → Begun (y ∷ n ∷ []) out (set (set out 0 y) 1 n)
begun-counts y n out h = begun-cell n (begun-cell y (begun-none out) refl (omega arith)) refl (omega arith)

both-length : (y n m : ℕ) (f : ℕ → ℕ) → length ((y ∷ n ∷ []) ++ tab m f) ≡ 2 + m
both-length y n m f = length-append (y ∷ n ∷ []) (tab m f) ∙ ap (λ (x : ℕ). 2 + x) (length-tab m f)

module _ (b c : List ℕ) {z : PairSizes} {t : Beside} (ez : z ≡ sizes_of b c) (et : t ≡ leads_of b c) where
  lead-length : length (table z.pairs t.letters (next_pair_of b c t)) ≡ z.pairs * z.letters
  lead-length =
      length-table z.pairs t.letters (next_pair_of b c t)
      ∙ ap (λ (l : ℕ). z.pairs * l) (ap (λ (t : Beside). t.letters) et ∙ sym (ap (λ (z : PairSizes). z.letters) ez))

  -- what is written is the product's front
  front-is : {y n : ℕ} → y ≡ z.letters → n ≡ z.pairs → ((y ∷ n ∷ []) ++ tab z.pairs (pair_size b c)) ++ table z.pairs t.letters (next_pair_of b c t) ≡ product_front b c
  front-is ey en =
      let y = ey ∙ ap (λ (z : PairSizes). z.letters) ez in
      let n = en ∙ ap (λ (z : PairSizes). z.pairs) ez in
      λ i. ((y i ∷ n i ∷ []) ++ tab (ez i).pairs (pair_size b c)) ++ table (ez i).pairs (et i).letters (next_pair_of b c (et i))

pub write_table-requires : goal.write_table-requires
write_table-requires c =
    let b = c.args.first.now in
    let d = c.args.second.now in
    let z = c.args.z in
    let P = c.requires.pair in
    let t = c.leads-t.result in
    let h = c.requires.letters_in_bounds in
    let g = begun_more (tab z.pairs (pair_size b d)) _ (begun-counts z.letters z.pairs c.args.out.now (omega (arith, h))) refl (omega (arith, h, length-tab z.pairs (pair_size b d))) c.write_sizes.ensures in (
      subst₂ (λ (t : Beside) (m : ℕ). Steps b d t m) (sym c.leads-t.ensures) (sym (ap (λ (z : PairSizes). z.pairs) P.1)) (lead-steps P.0.alike),
      (front-few P.0 P.1).0,
      omega (
        arith,
        length-table z.pairs t.letters (next_pair_of b d t),
        lead-length b d P.1 c.leads-t.ensures,
        lent_length {a = 2 + z.pairs} g (omega (arith, h)),
        h,
      ),
    )

pub returns : goal.returns
returns c =
    let b = c.args.first.now in
    let d = c.args.second.now in
    let z = c.args.z in
    let P = c.requires.pair in
    let t = c.leads-t.result in
    let h = c.requires.letters_in_bounds in
    let g = begun_more (tab z.pairs (pair_size b d)) _ (begun-counts z.letters z.pairs c.args.out.now (omega (arith, h))) refl (omega (arith, h, length-tab z.pairs (pair_size b d))) c.write_sizes.ensures in
    (begun_more (table z.pairs t.letters (next_pair_of b d t)) _ g (both-length z.letters z.pairs z.pairs (pair_size b d))
    (omega (arith, lead-length b d P.1 c.leads-t.ensures, h)) c.write_table.ensures).cells
    ∙ ap (λ (l : List ℕ). written l c.args.out.now) (front-is b d P.1 c.leads-t.ensures refl refl)
