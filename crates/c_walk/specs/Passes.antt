-- What the pass over a prefix holds, by numbers: whether it failed, the state reached, the position. Assumes nothing.
use Rattle.std.specs.Prelude.{cond, List, [], ◌∷◌, ℕ, eqb}
use Rattle.fdfa.specs.Pass.{Pass, reached, unknown}

abbrev pub held_of : ℕ → ℕ → ℕ → Pass
held_of failed state position = cond (eqb failed 0) (reached state position) (unknown position)

abbrev pub pass_numbers : Pass → List ℕ
pass_numbers (reached state position) = 0 ∷ state ∷ position ∷ []
pass_numbers (unknown position) = 1 ∷ 0 ∷ position ∷ []
