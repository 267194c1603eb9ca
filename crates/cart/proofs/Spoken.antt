-- What is said on standard error, out of the texts that it is stored by, and what is kept of it. Assumes nothing.
use mathlib.Core.Path.{◌≡◌, ap, sym, ◌∙◌}
use mathlib.Core.Bool.{Bool, cond}
use mathlib.Core.List.{List, []}
use Prim.Native.Nat.{ℕ, ◌≤◌, ◌<◌}
use native.Mathlib.Omega.{arith}
use lib.ListN.{length}
use borrow.Author.Tests.{lt-ltb, le-ltb}
use Rattle.slices.specs.declared.Refusal.{Refusal}
use Rattle.slices.specs.Texts.{bytes}
use Rattle.numbers.specs.Storing.{Stored}
use Rattle.numbers.proofs.Stores.{stored-then}
use Rattle.sheet_forms.specs.declared.Form.{Form}
use Rattle.sheet_forms.specs.Forms.{form_of, is_text_of}
use Rattle.console.specs.Printed.{Shows}
use Rattle.console.proofs.Printed.{shows-as, stored-shows}
use Rattle.wording.specs.Words.{refusal_words_of}
use Rattle.cart_files.specs.declared.Scene.{Scene}
use Rattle.cart.specs.Said.{sheet_file, show_file, no_file, sheet_words, show_said, in_scene, opening_lines_of, unknown_words, rejected_words, one_words}

pub rejected-said : {old o₁ o₂ o₃ new : List ℕ} {p₁ p₂ p₃ r : ℕ} (name one : List ℕ) → length name ≤ 4096 → length one ≤ 4096 → 8448 ≤ length old → Stored old 0 name o₁ p₁
    → Stored o₁ p₁ (bytes ": rejected by ") o₂ p₂ → Stored o₂ p₂ one o₃ p₃ → Stored o₃ p₃ (bytes "\n") new r → Shows (rejected_words name one) old new r
rejected-said name one h l k a b c d =
    stored-shows {room = 8448} (stored-then _ _ (stored-then _ _ (stored-then _ _ a b) c) d) (omega (arith, a.next, b.next, c.next, d.next)) k

pub one-said : {old o₁ o₂ new : List ℕ} {p₁ p₂ r : ℕ} (name : List ℕ) → length name ≤ 4096 → 4352 ≤ length old → Stored old 0 (bytes "cart: CART and ") o₁ p₁ → Stored o₁ p₁ name o₂ p₂
    → Stored o₂ p₂ (bytes " are one file, nothing is made\n") new r → Shows (one_words name) old new r
one-said name h k a b c = stored-shows {room = 4352} (stored-then _ _ (stored-then _ _ a b) c) (omega (arith, a.next, b.next, c.next)) k

pub sheet-said : {old new : List ℕ} {n : ℕ} {f : Form} {x : Bool} (name b : List ℕ) (r : Refusal) → f ≡ form_of b → x ≡ is_text_of f
    → Shows (refusal_words_of (bytes "cart") (record { name = name; held = b; lined = x }) no_file r) old new n → Shows (sheet_words (sheet_file name b) r) old new n
sheet-said name b r e d s = shows-as (ap (λ (y : Bool). refusal_words_of (bytes "cart") (record { name = name; held = b; lined = y }) no_file r) (d ∙ ap is_text_of e)) s

-- a scene of the cart
module _ (x : Scene) where
  pub few-lines : x.openings < 4096 → (x.openings ≡ opening_lines_of x) × (x.openings ≤ 4096)
  few-lines h = (ap (λ (t : Bool). cond t x.openings 4096) (sym (lt-ltb x.openings 4096 h)), omega arith)

  pub all_lines : 4096 ≤ x.openings → (4096 ≡ opening_lines_of x) × (◌≤◌ 4096 4096)
  all_lines h = (ap (λ (t : Bool). cond t x.openings 4096) (sym (le-ltb x.openings 4096 h)), omega arith)

pub unknown-said : {old new : List ℕ} {n m : ℕ} {q : Refusal} (name : List ℕ) (x : Scene) (r : Refusal) → m ≡ opening_lines_of x → q ≡ in_scene x r
    → Shows (show_said (show_file name []) m q) old new n → Shows (unknown_words name x r) old new n
unknown-said name x r d e s = shows-as (λ i. show_said (show_file name []) (d i) (e i)) s
