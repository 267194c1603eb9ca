-- Two sheets that have a product: its bytes are those of the pieces, and its pairs are small. Assumes nothing.
use mathlib.Core.Path.{◌≡◌}
use mathlib.Core.List.{List, [], ◌∷◌, ◌++◌}
use Prim.Native.Nat.{ℕ, ◌*◌, ◌/◌, ◌%◌, ◌≤◌, ◌<◌}
use native.Mathlib.Nat.{mod-lt}
use Rattle.slices.specs.Tables.{tab, rows, table}
use Rattle.fdfa.specs.Boolean.{beside}
use Rattle.fdfa.proofs.Product.{left_below}
use Rattle.packed.specs.Layout.{letter_count, state_count, size_of, leading_at, progress_at_value, table_step}
use Rattle.pairing.specs.Pairs.{Alike, marks_of}
use Rattle.boolean.specs.declared.Operation.{Operation}
use Rattle.boolean.specs.Operations.{Pair, product_bytes}
use Rattle.boolean.specs.Pieces.{pair_mark, pair_size, product_front, product_parts}

-- the product's own letters are the first sheet's, and its second automaton steps by as many
pub product_is : (op : Operation) (b c : List ℕ) → Alike b c → product_front b c ++ product_parts op b c ≡ product_bytes op b c
product_is op b c A = λ i.
    (((letter_count b ∷ state_count b * state_count c ∷ []) ++ tab (state_count b * state_count c) (pair_size b c))
    ++ table (state_count b * state_count c) (letter_count b) (beside (state_count c) (table_step b (leading_at b) (letter_count b)) (table_step c (leading_at c) (A.letters i))))
    ++ rows (state_count b * state_count c) (λ x.
    table (pair_size b c x) (letter_count b) (beside (size_of c (x % state_count c)) (table_step b (progress_at_value b (x / state_count c)) (letter_count b)) (table_step c (progress_at_value c (x % state_count c)) (A.letters i)))
    ++ tab (pair_size b c x) (pair_mark op b c (marks_of b c (x / state_count c) (x % state_count c))))

module _ {b c : List ℕ} (P : Pair b c) where
  -- the halves of a pair of leading states
  pub some : 0 < state_count c
  some = P.alike.second.header.some_states

  left : {x : ℕ} → x < state_count b * state_count c → x / state_count c < state_count b
  left h = left_below some h

  right : (x : ℕ) → x % state_count c < state_count c
  right x = mod-lt x some

  pub size_few : (x : ℕ) → x < state_count b * state_count c → pair_size b c x ≤ 32
  size_few x h = P.few_progress (x / state_count c) (x % state_count c) (left h) (right x)
