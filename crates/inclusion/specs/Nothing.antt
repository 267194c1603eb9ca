-- The sheet with one state everywhere that accepts nothing, by which emptiness is inclusion. Assumes nothing.
use Rattle.std.specs.Prelude.{List, ◌∷◌, ℕ, ◌+◌, ◌*◌, replicate}

abbrev pub nothing_bytes : ℕ → List ℕ
nothing_bytes s = s ∷ 1 ∷ 1 ∷ replicate (2 * s + 1) 0
