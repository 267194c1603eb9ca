-- Lists that are tables of a function, row after row. Assumes nothing.
use Rattle.std.specs.Prelude.{List, [], ◌∷◌, ◌++◌, ℕ, zero, suc, ◌+◌}

-- f 0, .., f (m − 1)
unfoldable pub tab : ℕ → (ℕ → ℕ) → List ℕ
tab zero f = []
tab (suc m) f = tab m f ++ (f m ∷ [])

-- The rows f 0, .., f (m − 1), one after the other.
unfoldable pub rows : ℕ → (ℕ → List ℕ) → List ℕ
rows zero f = []
rows (suc m) f = rows m f ++ f m

-- f 0 + .. + f (m − 1)
unfoldable pub sum : ℕ → (ℕ → ℕ) → ℕ
sum zero f = 0
sum (suc m) f = sum m f + f m

-- A table of s entries a row, row after row.
abbrev pub table : ℕ → ℕ → (ℕ → ℕ → ℕ) → List ℕ
table k s f = rows k (λ q. tab s (f q))
