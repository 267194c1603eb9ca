-- The answers of `boolean::writing::write_product`: the counts and the leading table, then the parts. Assumes nothing.
use mathlib.Core.Path.{◌≡◌, ap, sym, ◌∙◌}
use mathlib.Core.List.{List}
use Prim.Native.Nat.{ℕ, ◌+◌, ◌*◌, ◌≤◌}
use native.Mathlib.Omega.{arith}
use lib.ListN.{length, length-append}
use Rattle.slices.specs.Filling.{written}
use Rattle.slices.proofs.Filling.{begun_first, begun_more, lent_length}
use Rattle.boolean.specs.Pieces.{product_front, product_parts}
use Rattle.boolean.proofs.Joining.{product_is}
use Rattle.boolean.proofs.Extent.{front_at, front_length}
use Rattle.boolean.proofs.writing.write_product.Goals as goal
use Rattle.pairing.specs.declared.PairSizes.{PairSizes}
use Rattle.pairing.specs.Pairs.{Alike, sizes_of}
use Rattle.boolean.specs.declared.Operation.{Operation}
use Rattle.boolean.specs.Operations.{product_bytes}

-- where the parts begin
at-is : (b c : List ℕ) {z : PairSizes} → z ≡ sizes_of b c → 2 + z.pairs + z.pairs * z.letters ≡ length (product_front b c)
at-is b c e = front_at b c e ∙ sym (front_length b c)

whole : (op : Operation) (b c : List ℕ) → Alike b c → {n : ℕ} → length (product_bytes op b c) ≤ n → length (product_front b c) + length (product_parts op b c) ≤ n
whole op b c A h = omega (arith, length-append (product_front b c) (product_parts op b c), ap length (product_is op b c A), h)

pub write_front-requires-clause-letters_in_bounds : goal.write_front-requires-clause-letters_in_bounds
write_front-requires-clause-letters_in_bounds c =
    let s = c.args in
    let P = c.requires.pair in
    omega (arith, at-is s.first.now s.second.now P.1, whole s.op s.first.now s.second.now P.0.alike c.requires.second_in_bounds)

pub slice_bounds-write_pairs-count : goal.slice_bounds-write_pairs-count
slice_bounds-write_pairs-count c =
    let s = c.args in
    let P = c.requires.pair in
    let w = whole s.op s.first.now s.second.now P.0.alike c.requires.second_in_bounds in
    omega (arith, at-is s.first.now s.second.now P.1, w, (begun_first c.write_front.ensures (omega (arith, w))).same)

pub slice_bounds-write_pairs-start : goal.slice_bounds-write_pairs-start
slice_bounds-write_pairs-start c =
    let s = c.args in
    let P = c.requires.pair in
    let w = whole s.op s.first.now s.second.now P.0.alike c.requires.second_in_bounds in
    omega (arith, at-is s.first.now s.second.now P.1, w, (begun_first c.write_front.ensures (omega (arith, w))).same)

pub write_pairs-requires-clause-second_in_bounds : goal.write_pairs-requires-clause-second_in_bounds
write_pairs-requires-clause-second_in_bounds c =
    let s = c.args in
    let z = s.z in
    let P = c.requires.pair in
    let a = at-is s.first.now s.second.now P.1 in
    let w = whole s.op s.first.now s.second.now P.0.alike c.requires.second_in_bounds in
    omega (arith, lent_length {a = 2 + z.pairs + z.pairs * z.letters} (begun_first c.write_front.ensures (omega (arith, w))) (omega (arith, a, w)), a, w)

pub returns : goal.returns
returns c =
    let s = c.args in
    let P = c.requires.pair in
    let a = at-is s.first.now s.second.now P.1 in
    let w = whole s.op s.first.now s.second.now P.0.alike c.requires.second_in_bounds in
    (begun_more (product_parts s.op s.first.now s.second.now) _ (begun_first c.write_front.ensures (omega (arith, w))) (sym a) (omega (arith, a, w)) c.write_pairs.ensures).cells
    ∙ ap (λ (l : List ℕ). written l s.out.now) (product_is s.op _ _ P.0.alike)
