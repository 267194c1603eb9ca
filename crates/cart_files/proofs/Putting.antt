-- A show in the cart: the bytes of its lengths, then its scenes; and what was read of its text. Assumes nothing.
use Rattle.std.specs.Prelude.{Ok}
use mathlib.Core.Path.{◌≡◌, ap, sym, ◌∙◌}
use mathlib.Core.List.{List, [], ◌∷◌, ◌++◌}
use Prim.Native.Nat.{ℕ, ◌+◌, ◌/◌, ◌%◌, ◌≤◌}
use native.Mathlib.Omega.{arith}
use lib.ListN.{length}
use Rattle.std.specs.Int.{w16, to_le_bytes}
use Rattle.slices.specs.Refusals.{Fault, sound, unless}
use Rattle.slices.specs.Tables.{rows}
use Rattle.slices.specs.Halves.{half_bytes_of}
use Rattle.numbers.specs.Storing.{Stored}
use Rattle.numbers.proofs.Stores.{stored-then, stored-as}
use Rattle.lasso_text.specs.Reading.{words_in}
use Rattle.show_files.specs.Shown.{shown}
use Rattle.carts.specs.Layout.{show_bytes}
use Rattle.cart_files.specs.Decided.{text_test, show_of}
use Rattle.cart_files.specs.Gathered.{placed, ShowPut}

high : (m : ℕ) → m ≤ 4096 → m / 256 % 256 ≡ m / 256
high m few = omega arith

header : {a b : List ℕ} (m n : ℕ) → m ≤ 4096 → n ≤ 4096 → a ≡ to_le_bytes w16 m → b ≡ to_le_bytes w16 n → a ++ b ≡ half_bytes_of (m ∷ n ∷ [])
unfolding half_bytes_of rows
header m n f g e h = (λ i. e i ++ h i) ∙ (λ i. m % 256 ∷ high m f i ∷ n % 256 ∷ high n g i ∷ [])

pub words-stored : {a b : List ℕ} (u v : List ℕ) {old o₀ o₁ o₂ new : List ℕ} {at p₀ p₁ p₂ r : ℕ} → length u ≤ 4096 → length v ≤ 4096
    → a ≡ to_le_bytes w16 (length u) → b ≡ to_le_bytes w16 (length v)
    → Stored old at a o₀ p₀ → Stored o₀ p₀ b o₁ p₁ → Stored o₁ p₁ u o₂ p₂ → Stored o₂ p₂ v new r → Stored old at (show_bytes (record { prefix = u; period = v })) new r
words-stored u v f g e h s₀ s₁ s₂ s₃ = stored-then _ _ (stored-then _ _ (stored-as (header (length u) (length v) f g e h) (stored-then _ _ s₀ s₁)) s₂) s₃

module _ (t : List ℕ) {old : List ℕ} {at : ℕ} where
  pub show-read : {u v new : List ℕ} {r : ℕ} → text_test t ≡ sound → u ≡ (words_in (shown t)).prefix → v ≡ (words_in (shown t)).period
      → Stored old at (show_bytes (record { prefix = u; period = v })) new r → ShowPut t old at new (Ok r)
  show-read {u} {v} {new} {r} e h k s = record {
    says = ap (λ (n : ℕ). unless sound n) is.next ∙ ap (λ (f : Fault). unless f (at + length (show_of t))) (sym e);
    cells = is.cells ∙ ap (λ (f : Fault). placed f old at (show_of t)) (sym e);
  }
    where
      is : Stored old at (show_of t) new r
      is = stored-as (λ i. show_bytes (record { prefix = h i; period = k i })) s
