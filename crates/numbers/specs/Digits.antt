-- The decimal digits of a number, as ASCII, as many as it needs. Assumes nothing.
use Rattle.std.specs.Prelude.{cond, List, [], ◌∷◌, ◌++◌, ℕ, zero, suc, ◌+◌, ◌/◌, ◌%◌, ltb}
use Prim.Native.Char.{code}

-- The last digit after those of n / 10; at most k of them.
unfoldable pub digits_within : ℕ → ℕ → List ℕ
digits_within zero n = []
digits_within (suc k) n = cond (ltb n 10) ((code "0" + n) ∷ []) (digits_within k (n / 10) ++ ((code "0" + n % 10) ∷ []))

-- n has at most n + 1.
unfoldable pub digits_of : ℕ → List ℕ
digits_of n = digits_within (suc n) n

-- A number and the byte that ends it.
abbrev pub field : ℕ → ℕ → List ℕ
field n end = digits_of n ++ (end ∷ [])
