-- What the reader of a show's text says, as numbers, and what it leaves in the lent slices. Assumes nothing.
use Rattle.slices.specs.declared.Refusal.{Refusal}
use Rattle.lasso_text.specs.declared.Lengths.{Lengths}
use Rattle.std.specs.Prelude.{◌≡◌, List, [], ◌∷◌, ℕ, length, Result}
use Rattle.slices.specs.Refusals.{Fault, unless}
use Rattle.slices.specs.Filling.{filled}
use Rattle.fdfa.specs.Family.{Words}
use Rattle.lasso_text.specs.Reading.{words_in, read_fault, sizes_of}
use Rattle.answers.specs.Layout.{numbers_of, unless_short, Told}

-- The lengths of prefix and period.
abbrev pub lasso_numbers_of : Lengths → List ℕ
lasso_numbers_of z = z.prefix ∷ z.period ∷ []

-- Reading a lasso's text: what is told, prefix and period.
abbrev pub lasso_read_fault : Result Words Refusal → List ℕ → List ℕ → Fault
lasso_read_fault x u v = read_fault x (length u) (length v)

abbrev pub lasso_says : Result Words Refusal → List ℕ → List ℕ → Result Lengths Refusal
lasso_says x u v = unless (lasso_read_fault x u v) (sizes_of (words_in x))

pub record LassoTold (x : Result Words Refusal) (u v answer u' v' answer' : List ℕ) (r : ℕ) : Type 0 where
  pub tells : Told 3 (numbers_of lasso_numbers_of (lasso_says x u v)) answer answer' r
  pub prefix : u' ≡ unless_short 3 answer u (filled (lasso_read_fault x u v) (words_in x).prefix u)
  pub period : v' ≡ unless_short 3 answer v (filled (lasso_read_fault x u v) (words_in x).period v)
