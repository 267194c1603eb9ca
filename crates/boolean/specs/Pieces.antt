-- The bytes of a complement and of a product in the pieces that inner functions write. Assumes nothing.
use Rattle.std.specs.Prelude.{not, List, [], ◌∷◌, ◌++◌, ℕ, ◌+◌, ◌*◌, ◌-◌, ◌/◌, ◌%◌, eqb, length, get_or, take, drop}
use Rattle.slices.specs.Tables.{tab, rows, sum, table}
use Rattle.packed.specs.Layout.{letter_count, state_count, size_of, mark}
use Rattle.pairing.specs.declared.Beside.{Beside}
use Rattle.pairing.specs.Pairs.{next_pair_of, leads_of, progress_of, marks_of}
use Rattle.boolean.specs.declared.Operation.{Operation}
use Rattle.boolean.specs.Operations.{op_of}

-- A mark flipped.
abbrev pub flipped_mark : List ℕ → ℕ → ℕ
flipped_mark marks p = mark (not (eqb (get_or marks p 0) 1))

-- The bytes of a leading state's part with its marks flipped.
abbrev pub flipped_part : List ℕ → ℕ → List ℕ
flipped_part part count = take count part ++ tab (length part - count) (flipped_mark (drop count part))

-- The mark of a pair of states, by the marks of both.
abbrev pub pair_mark : Operation → List ℕ → List ℕ → Beside → ℕ → ℕ
pair_mark op b c m x = mark (op_of op (eqb (get_or b (m.first + x / m.width) 0) 1)
    (eqb (get_or c (m.second + x % m.width) 0) 1))

-- The size of the pair x of leading states.
abbrev pub pair_size : List ℕ → List ℕ → ℕ → ℕ
pair_size b c x = size_of b (x / state_count c) * size_of c (x % state_count c)

-- The counts and the leading table.
abbrev pub product_front : List ℕ → List ℕ → List ℕ
product_front b c =
    ((letter_count b ∷ state_count b * state_count c ∷ []) ++ tab (state_count b * state_count c) (pair_size b c))
    ++ table (state_count b * state_count c) (letter_count b) (next_pair_of b c (leads_of b c))

-- The part of the pair (p, q) of leading states: next states, then marks.
abbrev pub pair_part : Operation → List ℕ → List ℕ → ℕ → ℕ → List ℕ
pair_part op b c p q =
    table (size_of b p * size_of c q) (letter_count b) (next_pair_of b c (progress_of b c p q))
    ++ tab (size_of b p * size_of c q) (pair_mark op b c (marks_of b c p q))

-- The parts of all pairs.
abbrev pub product_parts : Operation → List ℕ → List ℕ → List ℕ
product_parts op b c = rows (state_count b * state_count c)
    (λ x. pair_part op b c (x / state_count c) (x % state_count c))

-- Where the part of the pair x begins.
unfoldable pub product_at : List ℕ → List ℕ → ℕ → ℕ
product_at b c x =
    2 + state_count b * state_count c
    + state_count b * state_count c * letter_count b
    + sum x (λ y. pair_size b c y * (letter_count b + 1))
