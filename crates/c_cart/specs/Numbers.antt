-- What loading a cart says, as numbers, and what it leaves in the out slice. Assumes nothing.
use Rattle.std.specs.Prelude.{◌≡◌, List, [], ◌∷◌, ℕ, length}
use Rattle.answers.specs.Layout.{numbers_of, unless_short, Told}
use Rattle.carts.specs.declared.Loading.{Loading}
use Rattle.carts.specs.declared.Loading.TheVariants.{Loaded, Rejected}
use Rattle.carts.specs.Loads.{load_of, out_after}

-- 1 and the length where the cart is loaded; 0 and the index of the first show that is rejected.
abbrev pub load_numbers_of : Loading → List ℕ
load_numbers_of (Loaded n) = 1 ∷ n ∷ []
load_numbers_of (Rejected i) = 0 ∷ i ∷ []

pub record CartTold (sheet cart out answer out' answer' : List ℕ) (r : ℕ) : Type 0 where
  pub tells : Told 3 (numbers_of load_numbers_of (load_of sheet cart (length out))) answer answer' r
  pub cells : out' ≡ unless_short 3 answer out (out_after (load_of sheet cart (length out)) cart out)
