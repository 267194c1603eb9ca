-- What complement, intersection and union say and write, for any bytes. Assumes nothing.
use Rattle.slices.specs.declared.Reason.TheVariants.{ProductSize, TooLittleRoom}
use Rattle.std.specs.Prelude.{Bool, ◌&&◌, ◌||◌, List, ℕ, ◌*◌, ◌≤◌, ◌<◌, ltb, length}
use Rattle.slices.specs.declared.Part.TheVariants.{First, Out}
use Rattle.slices.specs.Refusals.{Fault, ◌then◌, when}
use Rattle.fdfa.specs.Boolean.{complement, product, intersection, union}
use Rattle.fdfa.specs.Inclusion.{widest}
use Rattle.packed.specs.Layout.{state_count, size_of, decode, pack}
use Rattle.packed.specs.Faults.{sheet_fault, pair_fault}
use Rattle.pairing.specs.Pairs.{Alike}
use Rattle.boolean.specs.declared.Operation.{Operation}
use Rattle.boolean.specs.declared.Operation.TheVariants.{Both, Either}

-- 21: the out slice has fewer cells than the result.
abbrev pub too_short : ℕ → ℕ → Fault
too_short cells needed = when (ltb cells needed) TooLittleRoom Out needed

-- The bytes of the complement, and when it is refused.
abbrev pub complement_bytes : List ℕ → List ℕ
complement_bytes b = pack (complement (decode b))

abbrev pub complement_fault : List ℕ → ℕ → Fault
complement_fault b cells = sheet_fault First b then too_short cells (length b)

-- Which marks of a pair make it marked.
abbrev pub op_of : Operation → Bool → Bool → Bool
op_of Both = ◌&&◌
op_of Either = ◌||◌

-- The bytes of the product, and by name of the intersection and the union.
abbrev pub product_bytes : Operation → List ℕ → List ℕ → List ℕ
product_bytes op b c = pack (product (op_of op) (decode b) (decode c))

abbrev pub intersection_bytes : List ℕ → List ℕ → List ℕ
intersection_bytes b c = pack (intersection (decode b) (decode c))

abbrev pub union_bytes : List ℕ → List ℕ → List ℕ
union_bytes b c = pack (union (decode b) (decode c))

-- First sheet, second sheet, 7 (letter counts differ), 20 (N above 32, else K above 32), 21.
abbrev pub product_fault : Operation → List ℕ → List ℕ → ℕ → Fault
product_fault op b c cells =
    pair_fault b c
    then when (ltb 32 (state_count b * state_count c)) ProductSize Out (state_count b * state_count c)
    then when (ltb 32 (widest (decode b) * widest (decode c))) ProductSize Out (widest (decode b) * widest (decode c))
    then too_short cells (length (product_bytes op b c))

-- Two valid sheets with the same letters whose product has at most 32 states everywhere.
pub record Pair (b c : List ℕ) : Type 0 where
  pub alike : Alike b c
  pub few_pairs : state_count b * state_count c ≤ 32
  pub few_progress : (p q : ℕ) → p < state_count b → q < state_count c → size_of b p * size_of c q ≤ 32
