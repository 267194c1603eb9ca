-- What the reader of a show's text leaves behind, by whether the answer slice is long enough. Assumes nothing.
use Rattle.std.specs.Prelude.{Result}
use Rattle.slices.specs.declared.Refusal.{Refusal}
use mathlib.Core.Path.{◌≡◌, ap, ◌∙◌}
use mathlib.Core.List.{List}
use Prim.Native.Nat.{ℕ, ◌≤◌, ◌<◌}
use lib.ListN.{length}
use Rattle.slices.specs.Filling.{written}
use Rattle.fdfa.specs.Family.{Words}
use Rattle.lasso_text.specs.declared.Lengths.{Lengths}
use Rattle.lasso_text.specs.Reading.{LassoRead}
use Rattle.answers.specs.Layout.{layout, numbers_of, padded}
use Rattle.answers.proofs.Telling.{short-old, long-new, told-short, told-long}
use Rattle.c_show.specs.Numbers.{lasso_numbers_of, LassoTold}

module _ (x : Result Words Refusal) (u v answer : List ℕ) where
  pub lasso-short : length answer < 24 → LassoTold x u v answer u v answer 0
  lasso-short h = record { tells = told-short 3 _ answer h; prefix = short-old 3 answer u _ h; period = short-old 3 answer v _ h }

  pub lasso-long : {w : Result Lengths Refusal} {stored u' v' answer' : List ℕ} {r : ℕ} → 24 ≤ length answer
      → LassoRead x u v u' v' w
      → stored ≡ padded 3 (numbers_of lasso_numbers_of w)
      → (r ≡ 1) × (answer' ≡ written (layout stored) answer)
      → LassoTold x u v answer u' v' answer' r
  lasso-long h R s t = record {
    tells = told-long 3 _ answer h (s ∙ ap (λ (y : Result Lengths Refusal). padded 3 (numbers_of lasso_numbers_of y)) R.says) t;
    prefix = R.opening ∙ long-new 3 answer u _ h;
    period = R.period ∙ long-new 3 answer v _ h;
  }
