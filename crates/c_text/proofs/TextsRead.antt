-- What the reader of a sheet's text leaves behind, by whether the answer slice is long enough. Assumes nothing.
use Rattle.std.specs.Prelude.{Result}
use Rattle.slices.specs.declared.Refusal.{Refusal}
use mathlib.Core.Path.{◌≡◌, ap, ◌∙◌}
use mathlib.Core.List.{List}
use Prim.Native.Nat.{ℕ, ◌≤◌, ◌<◌}
use lib.ListN.{length}
use Rattle.slices.specs.Filling.{written}
use Rattle.notation.specs.declared.Levelled.{Levelled}
use Rattle.notation.specs.Reading as notation
use Rattle.answers.specs.Layout.{layout, numbers_of, padded}
use Rattle.answers.proofs.Telling.{short-old, long-new, told-short, told-long}
use Rattle.c_text.specs.Numbers.{sheet_numbers_of, SheetTold}

module _ (x : Result notation.Sheet Refusal) (out seconds answer : List ℕ) where
  pub sheet-short : length answer < 24 → SheetTold x out seconds answer out seconds answer 0
  sheet-short h = record {
    tells = told-short 3 _ answer h;
    sheet = short-old 3 answer out _ h;
    times = short-old 3 answer seconds _ h;
  }

  pub sheet-long : {w : Result Levelled Refusal} {stored out' seconds' answer' : List ℕ} {r : ℕ} → 24 ≤ length answer
      → notation.SheetRead x out seconds out' seconds' w
      → stored ≡ padded 3 (numbers_of sheet_numbers_of w)
      → (r ≡ 1) × (answer' ≡ written (layout stored) answer)
      → SheetTold x out seconds answer out' seconds' answer' r
  sheet-long h R s t = record {
    tells = told-long 3 _ answer h (s ∙ ap (λ (y : Result Levelled Refusal). padded 3 (numbers_of sheet_numbers_of y)) R.says) t;
    sheet = R.sheet ∙ long-new 3 answer out _ h;
    times = R.times ∙ long-new 3 answer seconds _ h;
  }
