-- The show of a place, sought show by show. Assumes nothing.
use mathlib.Core.Path.{◌≡◌, ap, sym, ◌∙◌}
use mathlib.Core.Bool.{Bool, cond}
use mathlib.Core.List.{List}
use Prim.Native.Nat.{ℕ, suc, ◌+◌, ◌*◌, ◌-◌, ◌≤◌, ◌<◌}
use native.Mathlib.Omega.{arith}
use lib.Dec.{ltb}
use borrow.Author.Tests.{lt-ltb, le-ltb}
use Rattle.carts.specs.Reading.{length_at, end_at}
use Rattle.cart_files.specs.declared.Scene.{Scene}
use Rattle.cart_files.specs.Scenes.{scene_in_value, scene_from}

-- in the opening, and in the loop
abbrev scene_of : ℕ → ℕ → ℕ → ℕ → Scene
scene_of show prefix period place = record { show = show; openings = period - prefix; place = cond (ltb place period) (place - prefix) (place - period) }

module _ (show prefix period place : ℕ) where
  pub in_opening : {p : ℕ} → place < period → p ≡ place - prefix → record { show = show; openings = period - prefix; place = p } ≡ scene_of show prefix period place
  in_opening h e = λ i. record { show = show; openings = period - prefix; place = (e ∙ ap (λ (b : Bool). cond b (place - prefix) (place - period)) (sym (lt-ltb place period h))) i }

  pub in-loop : period ≤ place → record { show = show; openings = period - prefix; place = place - period } ≡ scene_of show prefix period place
  in-loop h = λ i. record { show = show; openings = period - prefix; place = ap (λ (b : Bool). cond b (place - prefix) (place - period)) (sym (le-ltb place period h)) i }

-- of the show that begins at a place, the lengths m and n
module _ (b : List ℕ) (at i c place : ℕ) {m n : ℕ} (p : m ≡ length_at b at) (q : n ≡ length_at b (at + 2)) where
  end : ltb place (at + 4 + m + n) ≡ ltb place (end_at b at)
  end = λ j. ltb place (at + 4 + p j + q j)

  pub sought-here : {k : ℕ} {r : Scene} → k ≡ suc c → place < at + 4 + m + n → r ≡ scene_of i (at + 4) (at + 4 + m) place → r ≡ scene_from b at i k place
  unfolding scene_from
  sought-here g h e =
      e
      ∙ ((λ j. record { show = i; openings = length j; place = cond (ltb place (at + 4 + p j)) (place - (at + 4)) (place - (at + 4 + p j)) })
      ∙ (ap (λ (t : Bool). cond t (scene_in_value b at i place) (scene_from b (end_at b at) (i + 1) c place)) (sym (sym end ∙ lt-ltb place (at + 4 + m + n) h)) ∙ ap (λ (k : ℕ). scene_from b at i k place) (sym g)))
    where
      length : at + 4 + m - (at + 4) ≡ length_at b at
      length = omega (arith, p)

  pub sought-past : {k : ℕ} → k ≡ suc c → at + 4 + m + n ≤ place → scene_from b at i k place ≡ scene_from b (at + 4 + m + n) (i + 1) c place
  unfolding scene_from
  sought-past g h =
      ap (λ (k : ℕ). scene_from b at i k place) g
      ∙ (ap (λ (t : Bool). cond t (scene_in_value b at i place) (scene_from b (end_at b at) (i + 1) c place)) (sym end ∙ le-ltb place (at + 4 + m + n) h)
      ∙ (λ j. scene_from b (at + 4 + sym p j + sym q j) (i + 1) c place))

pub sought-none : (b : List ℕ) (at i place : ℕ) {k count : ℕ} → k ≡ 0 → i ≡ count → record { show = count; openings = 0; place = 0 } ≡ scene_from b at i k place
unfolding scene_from
sought-none b at i place e d = ap (λ (n : ℕ). record { show = n; openings = 0; place = 0 }) (sym d) ∙ ap (λ (k : ℕ). scene_from b at i k place) (sym e)

-- What is sought among the shows that are left is what is sought among all.
pub record Seeking (b : List ℕ) (place count at i : ℕ) : Type 0 where
  pub upto : i ≤ count
  pub few : count ≤ 255
  pub bound : at ≤ 1 + 131074 * i
  pub same : scene_from b at i (count - i) place ≡ scene_from b 1 0 count place
