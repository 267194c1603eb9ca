-- The sheets that complement, intersection and union write: they are valid, and their verdicts are reversed, both, or either. Assumes nothing.
use Rattle.slices.specs.declared.Reason.TheVariants.{ProductSize}
use mathlib.Core.Path.{◌≡◌, ap, sym, ◌∙◌}
use mathlib.Core.Bool.{not}
use mathlib.Core.List.{List}
use Prim.Native.Nat.{ℕ, ◌*◌, ◌≤◌, ◌<◌}
use native.Mathlib.Omega.{arith}
use native.Mathlib.Nat.{mul-le-mul}
use lib.Dec.{ltb}
use lib.ListN.{length}
use borrow.Author.Tests.{ltb-false}
use Rattle.slices.specs.declared.Part.TheVariants.{Out}
use Rattle.fdfa.specs.Family.{Fdfa, Complete, Lasso}
use Rattle.fdfa.specs.Normalization.{Normalized}
use Rattle.fdfa.specs.Acceptance.{Verdict, verdict, accepts}
use Rattle.fdfa.specs.Boolean.{complement, product}
use Rattle.fdfa.specs.Inclusion.{widest}
use Rattle.slices.specs.Refusals.{Fault, sound, ◌then◌, when}
use Rattle.fdfa.specs.Invariance.{TurnProof}
use Rattle.fdfa.proofs.Agreement.{verdict-same}
use Rattle.fdfa.proofs.Complement.{complement-complete}
use Rattle.slices.proofs.Extremes.{largest-le}
use Rattle.slices.proofs.Refusals.{then-left, then-right, when-sound}
use Rattle.fdfa.proofs.Product.{product-complete, product-closing, product-of-turn-proof}
use Rattle.packed.specs.Layout.{letter_count, state_count, size_of, decode, pack, Packable, Valid}
use Rattle.packed.specs.Faults.{pair_fault}
use Rattle.packed.proofs.Packing.{decode-pack, pack-valid}
use Rattle.packed.proofs.Soundness.{valid-packable}
use Rattle.pairing.proofs.Within.{sound-alike}
use Rattle.boolean.specs.declared.Operation.{Operation}
use Rattle.boolean.specs.Operations.{complement_bytes, op_of, product_bytes, too_short, product_fault, Pair}
use Rattle.boolean.proofs.Joining.{size_few}

-- what is read of a packed family has the family's verdicts
read_back : (F : Fdfa) → Packable F → (u v : List ℕ) → Lasso F.letters u v → verdict (decode (pack F)) u v ≡ verdict F u v
read_back F P u v l = sym (verdict-same F (decode (pack F)) P.complete (decode-pack F P) u v l)

module _ (b : List ℕ) (valid : Valid b) where
  complement-packable : Packable (complement (decode b))
  complement-packable =
      let p = valid-packable b valid in
      record {
        complete = complement-complete (decode b) p.complete;
        some_letters = p.some_letters;
        few_letters = p.few_letters;
        few_states = p.few_states;
        few_progress = p.few_progress;
      }

  pub complement-valid : Valid (complement_bytes b)
  complement-valid = pack-valid (complement (decode b)) complement-packable

  -- every verdict is reversed, turn_proof or not, and i, j, q and the end stay
  pub complement-verdict : (u v : List ℕ) → Lasso (letter_count b) u v → let w = verdict (decode b) u v in
      verdict (decode (complement_bytes b)) u v ≡ record { accepted = not w.accepted; i = w.i; j = w.j; state = w.state; end = w.end }
  complement-verdict u v l = read_back (complement (decode b)) complement-packable u v l

pub sizes-few : (b c : List ℕ) → widest (decode b) * widest (decode c) ≤ 32 → (p q : ℕ) → p < state_count b → q < state_count c → size_of b p * size_of c q ≤ 32
sizes-few b c h p q hp hq =
    omega (arith, mul-le-mul (largest-le (state_count b) (size_of b) p hp) (largest-le (state_count c) (size_of c) q hq))

-- what the calls did not refuse has a product
pub sound-pair : (op : Operation) (b c : List ℕ) (cells : ℕ) → product_fault op b c cells ≡ sound → Pair b c
sound-pair op b c cells e = record {
  alike = sound-alike b c (then-left (pair_fault b c) (pairs then progress then room) e);
  few_pairs = ltb-false 32 (state_count b * state_count c) (when-sound _ ProductSize Out _ (then-left pairs (progress then room) rest));
  few_progress = sizes-few b c (ltb-false 32 (widest (decode b) * widest (decode c)) (when-sound _ ProductSize Out _ (then-left progress room (then-right pairs (progress then room) rest))));
}
  where
    pairs : Fault
    pairs = when (ltb 32 (state_count b * state_count c)) ProductSize Out (state_count b * state_count c)

    progress : Fault
    progress = when (ltb 32 (widest (decode b) * widest (decode c))) ProductSize Out (widest (decode b) * widest (decode c))

    room : Fault
    room = too_short cells (length (product_bytes op b c))

    rest : pairs then progress then room ≡ sound
    rest = then-right (pair_fault b c) (pairs then progress then room) e

module _ (op : Operation) (b c : List ℕ) (P : Pair b c) where
  both : Complete (decode b) × Complete (decode c)
  both = ((valid-packable b P.alike.first).complete, (valid-packable c P.alike.second).complete)

  product-packable : Packable (product (op_of op) (decode b) (decode c))
  product-packable = record {
    complete = product-complete (op_of op) (decode b) (decode c) P.alike.letters both.0 both.1;
    some_letters = P.alike.first.header.some_letters;
    few_letters = P.alike.first.header.few_letters;
    few_states = P.few_pairs;
    few_progress = size_few P;
  }

  pub product-valid : Valid (product_bytes op b c)
  product-valid = pack-valid (product (op_of op) (decode b) (decode c)) product-packable

  accepts-back : (u v : List ℕ) → Lasso (letter_count b) u v → accepts (decode (product_bytes op b c)) u v ≡ accepts (product (op_of op) (decode b) (decode c)) u v
  accepts-back u v l = ap (λ (w : Verdict). w.accepted) (read_back (product (op_of op) (decode b) (decode c)) product-packable u v l)

  -- both, or either, for every lasso that is normalized in both sheets
  pub product-verdict : (u v : List ℕ) → Lasso (letter_count b) u v → Normalized (decode b) u v → Normalized (decode c) u v
      → accepts (decode (product_bytes op b c)) u v ≡ op_of op (accepts (decode b) u v) (accepts (decode c) u v)
  product-verdict u v l n m = accepts-back u v l ∙ product-closing (op_of op) (decode b) (decode c) P.alike.letters both.0 both.1 u v l n m

  -- and for every lasso, where both sheets are turn_proof
  pub turn-proof-verdict : TurnProof (decode b) → TurnProof (decode c) → (u v : List ℕ) → Lasso (letter_count b) u v
      → accepts (decode (product_bytes op b c)) u v ≡ op_of op (accepts (decode b) u v) (accepts (decode c) u v)
  turn-proof-verdict tb tc u v l =
      accepts-back u v l ∙ product-of-turn-proof (op_of op) (decode b) (decode c) P.alike.letters both.0 both.1 tb tc u v l
