-- The infinite word of a lasso (01: the run of a show): u, then v for ever. Assumes nothing.
use Rattle.std.specs.Prelude.{List, ◌++◌, ℕ, suc, get_or}
use Rattle.fdfa.specs.Words.{power}

-- Its letter at position m, which lies within u and m + 1 turns of v.
unfoldable pub letter_at : List ℕ → List ℕ → ℕ → ℕ
letter_at u v m = get_or (u ++ power v (suc m)) m 0
