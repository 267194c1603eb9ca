-- What the code may use of the front after it was read. Assumes nothing.
use mathlib.Core.Path.{◌≡◌, sym, ◌∙◌}
use mathlib.Core.List.{List}
use Prim.Native.Nat.{ℕ, ◌+◌, ◌*◌, ◌≤◌, ◌<◌}
use native.Mathlib.Omega.{arith}
use native.Mathlib.Nat.{mul-le-mul}
use lib.ListN.{length}
use Rattle.slices.specs.Tables.{sum}
use Rattle.format.specs.Format.{Fits}
use Rattle.blocks.specs.Text.{letters_in, states_in, size_in}
use Rattle.blocks.specs.Values.{front_format}
use Rattle.blocks.proofs.Measures.{sum-few}
use Rattle.blocks.proofs.Shapes.{FrontFits, front-was}

module _ (front : List ℕ) (h : Fits front_format front) where
  fits : FrontFits front
  fits = front-was front h

  pub front_long : length front ≤ 1091
  front_long =
      let w : letters_in front + 2 ≤ 34 = omega (arith, fits.few_letters) in omega (arith, fits.long, mul-le-mul fits.few_states w)

  module _ (s n : ℕ) (es : s ≡ letters_in front) (en : n ≡ states_in front) where
    pub few_letters : s ≤ 32
    few_letters = omega (arith, fits.few_letters)

    pub few_states : n ≤ 32
    few_states = omega (arith, fits.few_states)

    pub front-end : 3 + n * (s + 2) ≡ length front
    front-end = (λ i. 3 + en i * (es i + 2)) ∙ sym fits.long

    pub few_size : (q : ℕ) → q < n → size_in front q ≤ 32
    few_size q l = fits.few_size q (omega arith)

    pub few_rows : (q : ℕ) → q ≤ n → sum q (size_in front) * (s + 3) ≤ 35840
    few_rows q l =
        let w : s + 3 ≤ 35 = omega (arith, few_letters) in
        mul-le-mul (sum-few q (size_in front) (omega (arith, few_states)) (λ r k. few_size r (omega arith))) w

    -- what counting the rows needs
    pub countable : ((s ≡ letters_in front) × (n ≡ states_in front) × (s ≤ 32) × (n ≤ 32) × (3 + n * (s + 2) ≤ length front)) × ((q : ℕ) → q < n → size_in front q ≤ 32)
    countable = ((es, en, few_letters, few_states, omega (arith, front-end)), few_size)
