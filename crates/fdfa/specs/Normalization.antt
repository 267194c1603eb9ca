-- The normalization of a lasso (002, Definition 3.1; 01: the closing numbers). That i and j exist and are `Smallest` is
-- law `normal` of proofs/Normal, and that they add up to at most n is `few-turns` there. Assumes nothing.
use Rattle.std.specs.Prelude.{◌≡◌, List, ◌++◌, ℕ, suc, ◌+◌, ◌≤◌, eqb, leb}
use Rattle.slices.specs.Extremes.{least}
use Rattle.fdfa.specs.Words.{power}
use Rattle.fdfa.specs.Family.{Fdfa, walk}

-- Of a sequence g: the smallest j from 1 to n with g i = g (i + j), or n + 1 where there is none.
unfoldable pub return_from : ℕ → (ℕ → ℕ) → ℕ → ℕ
return_from n g i = suc (least n (λ j. eqb (g i) (g (i + suc j))))

-- The smallest i from which the sequence returns.
unfoldable pub returning : ℕ → (ℕ → ℕ) → ℕ
returning n g = least n (λ i. leb (return_from n g i) n)

-- What the two are, of any numbers: g returns from i after j, and each of i and j is the smallest, by itself, among
-- all.
pub record Smallest (g : ℕ → ℕ) (i j : ℕ) : Type 0 where
  pub positive : 1 ≤ j
  pub same : g i ≡ g (i + j)
  pub least_i : (i' j' : ℕ) → 1 ≤ j' → g i' ≡ g (i' + j') → i ≤ i'
  pub least_j : (i' j' : ℕ) → 1 ≤ j' → g i' ≡ g (i' + j') → j ≤ j'

-- The leading state after u and i turns of v.
abbrev pub after : Fdfa → List ℕ → List ℕ → ℕ → ℕ
after F u v i = walk F.step 0 (u ++ power v i)

-- The closing numbers: i and j are the smallest with the same leading state after u and i turns as after u and i + j.
abbrev pub preperiod : Fdfa → List ℕ → List ℕ → ℕ
preperiod F u v = returning F.states (after F u v)

abbrev pub period_count : Fdfa → List ℕ → List ℕ → ℕ
period_count F u v = return_from F.states (after F u v) (preperiod F u v)

-- The lasso is normalized (01: the show closes).
pub record Normalized (F : Fdfa) (u v : List ℕ) : Type 0 where
  pub no_preperiod : preperiod F u v ≡ 0
  pub one_turn : period_count F u v ≡ 1
