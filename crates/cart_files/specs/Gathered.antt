-- A cart that is gathered from texts, one after the other. Assumes nothing.
use Rattle.std.specs.Prelude.{◌≡◌, List, [], ◌∷◌, ◌++◌, ℕ, ◌+◌, ◌*◌, ◌≤◌, length, take, Result, Ok, Err}
use Rattle.std.proofs.lemmas.List.Edits.{sets}
use Rattle.slices.specs.declared.Refusal.{Refusal}
use Rattle.slices.specs.Refusals.{Fault, sound, fault, unless}
use Rattle.carts.specs.declared.Loading.{Loading}
use Rattle.carts.specs.Loads.{load_of}
use Rattle.cart_files.specs.declared.Kept.{Kept}
use Rattle.cart_files.specs.declared.Kept.TheVariants.{Nothing, Text, Long}
use Rattle.cart_files.specs.declared.Collected.{Collected}
use Rattle.cart_files.specs.Decided.{text_test, too_long_fault, texts_fault, show_of, cart_of}

-- What is kept of the texts that are too long, and of the others.
abbrev pub long_in : Kept → Fault
long_in Nothing = sound
long_in (Text r) = sound
long_in (Long r) = fault r

abbrev pub text_in : Kept → Fault
text_in Nothing = sound
text_in (Text r) = fault r
text_in (Long r) = sound

-- What is held of some texts: how many they are; the first that is too long; where none is, the first refusal; and
-- where nothing is refused, their cart.
pub record Gathered (ts : List (List ℕ)) (cart : List ℕ) (held : Collected) : Type 0 where
  pub count : held.count ≡ length ts
  pub long : long_in held.kept ≡ too_long_fault ts
  pub text : too_long_fault ts ≡ sound → text_in held.kept ≡ texts_fault ts
  pub cells : too_long_fault ts ≡ sound → texts_fault ts ≡ sound → take held.length cart ≡ cart_of ts

-- A show takes 8,196 bytes at most.
abbrev pub Bounded : Collected → Type 0
Bounded held = held.length ≤ 1 + 8196 * held.count

-- One text more.
pub record Adds (t old new : List ℕ) (held r : Collected) : Type 0 where
  pub count : r.count ≡ held.count + 1
  pub bounded : Bounded r
  pub gathered : (ts : List (List ℕ)) → Gathered ts old held → Gathered (ts ++ (t ∷ [])) new r

-- What inner functions say. The first text that is too long is kept.
abbrev pub longer : Kept → Refusal → Kept
longer Nothing r = Long r
longer (Text q) r = Long r
longer (Long q) r = Long q

-- The show of a text lies from a place on, or nothing is changed.
abbrev pub placed : Fault → List ℕ → ℕ → List ℕ → List ℕ
placed sound old at x = sets old at x
placed (fault r) old at x = old

pub record ShowPut (t old : List ℕ) (at : ℕ) (new : List ℕ) (r : Result ℕ Refusal) : Type 0 where
  pub says : r ≡ unless (text_test t) (at + length (show_of t))
  pub cells : new ≡ placed (text_test t) old at (show_of t)

-- What the code decides of a sheet and of a cart, by what is kept.
abbrev pub of_cart : List ℕ → List ℕ → Kept → Result Loading Refusal
of_cart b cart Nothing = load_of b cart (length cart)
of_cart b cart (Text r) = Err r
of_cart b cart (Long r) = Err r

abbrev pub of_short : Result (List ℕ) Refusal → List ℕ → Kept → Result Loading Refusal
of_short (Err r) cart k = Err r
of_short (Ok b) cart k = of_cart b cart k

abbrev pub of_long : Result (List ℕ) Refusal → List ℕ → Kept → Result Loading Refusal
of_long x cart Nothing = of_short x cart Nothing
of_long x cart (Text r) = of_short x cart (Text r)
of_long x cart (Long r) = Err r
