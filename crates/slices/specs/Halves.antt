-- Numbers of 16 bits as bytes, two for each, low byte first. Assumes nothing.
use Rattle.std.specs.Prelude.{List, [], ◌∷◌, ℕ, ◌+◌, ◌*◌, ◌/◌, ◌%◌, length, get_or}
use Rattle.slices.specs.Tables.{tab, rows}

-- The numbers that some bytes are; an odd last byte is none.
unfoldable pub halves_of : List ℕ → List ℕ
halves_of b = tab (length b / 2) (λ i. get_or b (i * 2) 0 + get_or b (i * 2 + 1) 0 * 256)

-- The bytes of some numbers.
unfoldable pub half_bytes_of : List ℕ → List ℕ
half_bytes_of w = rows (length w) (λ i. get_or w i 0 % 256 ∷ get_or w i 0 / 256 ∷ [])
