-- What loading a cart leaves behind, by whether the answer slice is long enough. Assumes nothing.
use Rattle.std.specs.Prelude.{Result}
use Rattle.slices.specs.declared.Refusal.{Refusal}
use mathlib.Core.Path.{◌≡◌, ap, ◌∙◌}
use mathlib.Core.List.{List}
use Prim.Native.Nat.{ℕ, ◌≤◌, ◌<◌}
use lib.ListN.{length}
use Rattle.slices.specs.Filling.{written}
use Rattle.answers.specs.Layout.{layout, numbers_of, padded}
use Rattle.answers.proofs.Telling.{short-old, long-new, told-short, told-long}
use Rattle.carts.specs.declared.Loading.{Loading}
use Rattle.carts.specs.Loads.{CartLoaded}
use Rattle.c_cart.specs.Numbers.{load_numbers_of, CartTold}

module _ (sheet cart out answer : List ℕ) where
  pub cart-short : length answer < 24 → CartTold sheet cart out answer out answer 0
  cart-short h = record { tells = told-short 3 _ answer h; cells = short-old 3 answer out _ h }

  pub cart-long : {w : Result Loading Refusal} {stored out' answer' : List ℕ} {r : ℕ} → 24 ≤ length answer
      → CartLoaded sheet cart out out' w
      → stored ≡ padded 3 (numbers_of load_numbers_of w)
      → (r ≡ 1) × (answer' ≡ written (layout stored) answer)
      → CartTold sheet cart out answer out' answer' r
  cart-long h l s t = record {
    tells = told-long 3 _ answer h (s ∙ ap (λ (y : Result Loading Refusal). padded 3 (numbers_of load_numbers_of y)) l.says) t;
    cells = l.cells ∙ long-new 3 answer out _ h;
  }
