-- The answers of `boolean::fill_product`. Assumes nothing.
use Rattle.slices.specs.declared.Reason.TheVariants.{TooLittleRoom}
use mathlib.Core.Path.{◌≡◌, ap, sym, ◌∙◌}
use mathlib.Core.List.{List}
use Prim.Native.Nat.{ℕ}
use native.Mathlib.Omega.{arith}
use lib.ListN.{length}
use borrow.Author.Tests.{lt-ltb, le-ltb}
use Rattle.slices.specs.declared.Part.TheVariants.{Out}
use Rattle.slices.specs.Refusals.{fault}
use Rattle.slices.proofs.Refusals.{when-fails, when-passes}
use Rattle.slices.proofs.Filling.{fill-refused, fill-given}
use Rattle.pairing.specs.declared.PairSizes.{PairSizes}
use Rattle.boolean.specs.Operations.{product_bytes}
use Rattle.boolean.specs.Pieces.{product_at}
use Rattle.boolean.proofs.Extent.{product-length}
use Rattle.boolean.proofs.fill_product.Goals as goal
use Rattle.pairing.specs.Pairs.{Alike, sizes_of}
use Rattle.boolean.specs.declared.Operation.{Operation}

length-is : (op : Operation) {b c : List ℕ} {z : PairSizes} {n : ℕ} → Alike b c → z ≡ sizes_of b c → n ≡ product_at b c z.pairs → n ≡ length (product_bytes op b c)
length-is op {b} {c} A e h = h ∙ (ap (λ (z : PairSizes). product_at b c z.pairs) e ∙ sym (product-length op b c A))

pub returns-then-out-needed : goal.returns-then-out-needed
returns-then-out-needed c =
    let s = c.args in
    let bytes = product_bytes s.op s.first.now s.second.now in
    let needed = length-is s.op c.requires.0.alike c.requires.1 c.product_length-needed.ensures in
    let f = when-fails TooLittleRoom Out (length bytes) (lt-ltb (length s.out.now) (length bytes) (omega (arith, needed, c.if-out-needed.true))) in
    fill-refused bytes s.out.now (f ∙ ((λ i. fault (record { reason = TooLittleRoom; part = Out; place = sym needed i })) ∙ ap fault (sym c.refuse.ensures)))

pub write_product-requires-clause-second_in_bounds : goal.write_product-requires-clause-second_in_bounds
write_product-requires-clause-second_in_bounds c =
    omega (arith, length-is c.args.op c.requires.0.alike c.requires.1 c.product_length-needed.ensures, c.if-out-needed.false)

pub returns : goal.returns
returns c =
    let s = c.args in
    let needed = length-is s.op c.requires.0.alike c.requires.1 c.product_length-needed.ensures in
    fill-given _ (when-passes TooLittleRoom Out _ (le-ltb _ _ (omega (arith, needed, c.if-out-needed.false)))) needed c.write_product.ensures
