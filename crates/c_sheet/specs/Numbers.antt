-- What the check of a sheet says, as numbers. Assumes nothing.
use Rattle.std.specs.Prelude.{List, [], ◌∷◌, ℕ}
use Rattle.packed.specs.declared.Sizes.{Sizes}

-- s, n and the largest k(q).
abbrev pub size_numbers : Sizes → List ℕ
size_numbers z = z.letters ∷ z.states ∷ z.widest ∷ []
