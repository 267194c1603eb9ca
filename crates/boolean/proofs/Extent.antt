-- How long the product of two sheets is. Assumes nothing.
use mathlib.Core.Path.{◌≡◌, ap, ap₂, sym, ◌∙◌}
use mathlib.Core.List.{List, [], ◌∷◌, ◌++◌}
use Prim.Native.Nat.{ℕ, ◌+◌, ◌*◌, ◌/◌, ◌%◌, ◌≤◌}
use native.Mathlib.Omega.{arith}
use native.Mathlib.Numerals.{add-one}
use lib.ListN.{length, length-append}
use Rattle.slices.specs.Tables.{tab, table, sum}
use Rattle.slices.proofs.Tables.{length-tab, length-table, length-rows, sum_same, sum-le}
use Rattle.packed.specs.Layout.{letter_count, state_count, size_of}
use Rattle.packed.proofs.Bounds.{few-both, part-few}
use Rattle.packed.proofs.Packing.{part_length}
use Rattle.pairing.specs.declared.PairSizes.{PairSizes}
use Rattle.pairing.specs.Pairs.{Alike, next_pair_of, leads_of, progress_of, marks_of, sizes_of}
use Rattle.boolean.specs.declared.Operation.{Operation}
use Rattle.boolean.specs.Operations.{Pair, product_bytes}
use Rattle.boolean.specs.Pieces.{pair_mark, pair_size, pair_part, product_front, product_parts, product_at}
use Rattle.boolean.proofs.Joining.{product_is, size_few}

pub product-first : (b c : List ℕ) → 2 + state_count b * state_count c + state_count b * state_count c * letter_count b ≡ product_at b c 0
unfolding product_at sum
product-first b c = omega arith

pub product-next : (b c : List ℕ) (x : ℕ) → product_at b c x + pair_size b c x * (letter_count b + 1) ≡ product_at b c (x + 1)
unfolding product_at sum
product-next b c x = rw (add-one x) (omega arith)

-- the same from the sizes that the code has in its hands
pub front_at : (b c : List ℕ) {z : PairSizes} → z ≡ sizes_of b c → 2 + z.pairs + z.pairs * z.letters ≡ product_at b c 0
front_at b c e = ap (λ (z : PairSizes). 2 + z.pairs + z.pairs * z.letters) e ∙ product-first b c

module _ {b c : List ℕ} (P : Pair b c) where
  pub front-few : {z : PairSizes} → z ≡ sizes_of b c → (z.pairs ≤ 32) × (z.letters ≤ 32) × (z.pairs * z.letters ≤ 1024)
  front-few {z} e =
      let n : z.pairs ≤ 32 = omega (arith, ap (λ (z : PairSizes). z.pairs) e, P.few_pairs) in
      let l : z.letters ≤ 32 = omega (arith, ap (λ (z : PairSizes). z.letters) e, P.alike.first.header.few_letters) in
      (n, l, few-both n l)

  pub product-few : (x : ℕ) → x ≤ state_count b * state_count c → product_at b c x ≤ 1058 + x * 1056
  unfolding product_at
  product-few x h =
      omega (
        arith,
        P.few_pairs,
        few-both P.few_pairs P.alike.first.header.few_letters,
        sum-le x (λ y. pair_size b c y * (letter_count b + 1)) 1056 (λ y l. part-few (size_few P y (omega arith)) P.alike.first.header.few_letters),
      )

pub pair-length : (op : Operation) (b c : List ℕ) (p q : ℕ) → length (pair_part op b c p q) ≡ size_of b p * size_of c q * letter_count b + size_of b p * size_of c q
pair-length op b c p q =
    length-append (table n (letter_count b) next) (tab n marks)
    ∙ ap₂ (λ (x y : ℕ). x + y) (length-table n (letter_count b) next) (length-tab n marks)
  where
    n : ℕ
    n = size_of b p * size_of c q

    next : ℕ → ℕ → ℕ
    next = next_pair_of b c (progress_of b c p q)

    marks : ℕ → ℕ
    marks = pair_mark op b c (marks_of b c p q)

pub front_length : (b c : List ℕ) → length (product_front b c) ≡ product_at b c 0
front_length b c =
    length-append ((letter_count b ∷ n ∷ []) ++ tab n (pair_size b c)) (table n (letter_count b) next)
    ∙ (ap₂ (λ (x y : ℕ). x + y) (length-append (letter_count b ∷ n ∷ []) (tab n (pair_size b c)) ∙ ap (λ (x : ℕ). 2 + x) (length-tab n (pair_size b c))) (length-table n (letter_count b) next)
    ∙ product-first b c)
  where
    n : ℕ
    n = state_count b * state_count c

    next : ℕ → ℕ → ℕ
    next = next_pair_of b c (leads_of b c)

pub product-length : (op : Operation) (b c : List ℕ) → Alike b c → length (product_bytes op b c) ≡ product_at b c (state_count b * state_count c)
unfolding product_at
product-length op b c A =
    ap length (sym (product_is op b c A))
    ∙ (length-append (product_front b c) (product_parts op b c)
    ∙ ap₂ (λ (x y : ℕ). x + y) (front_length b c ∙ sym (product-first b c))
    (length-rows (state_count b * state_count c) part ∙ sum_same (state_count b * state_count c) _ _ (λ x h. pair-length op b c (x / state_count c) (x % state_count c) ∙ part_length (pair_size b c x) (letter_count b))))
  where
    part : ℕ → List ℕ
    part x = pair_part op b c (x / state_count c) (x % state_count c)
