-- A refusal in words, out of the texts that it is stored by. Assumes nothing.
use mathlib.Core.Path.{◌≡◌, refl, ap, sym, ◌∙◌}
use mathlib.Core.Bool.{Bool, true, false, cond, not, ◌||◌}
use mathlib.Core.List.{List, ◌++◌}
use Prim.Native.Nat.{ℕ, ◌+◌, ◌≤◌, ◌<◌}
use native.Mathlib.Omega.{arith}
use lib.Dec.{eqb, ltb}
use lib.ListN.{length}
use borrow.Author.Tests.{lt-ltb, le-ltb, eq-eqb, ne_eqb}
use Rattle.slices.specs.declared.Reason.{Reason}
use Rattle.slices.specs.declared.Reason.TheVariants.{LettersDiffer}
use Rattle.slices.specs.declared.Refusal.{Refusal}
use Rattle.slices.specs.Refusals.{number_of}
use Rattle.slices.specs.Texts.{bytes}
use Rattle.numbers.specs.Digits.{field}
use Rattle.numbers.specs.Storing.{Stored}
use Rattle.numbers.proofs.Stores.{stored-then, stored-as}
use Rattle.wording.specs.declared.Position.{Position}
use Rattle.console.specs.Printed.{Shows}
use Rattle.wording.specs.Words.{sentence, position_at, File, line_place, byte_place, place_in, place_for, spot, file_of_value, culprit, reason_line, refusal_words_of}
use Rattle.wording.proofs.Sentences.{sentence-short}
use Rattle.console.proofs.Printed.{field-few, stored-shows}

-- a place
pub line-stored : {old o₁ o₂ new : List ℕ} {at p₁ p₂ r : ℕ} (q : Position) → q.line < 18446744073709551616 → q.column < 18446744073709551616
    → Stored old at (bytes ":") o₁ p₁ → Stored o₁ p₁ (field q.line 58) o₂ p₂ → Stored o₂ p₂ (field q.column 58) new r
    → Stored old at (line_place q) new r × (r ≤ at + 43)
line-stored q h k a b c = (
  stored-then _ _ (stored-then _ _ a b) c,
  omega (arith, a.next, b.next, c.next, field-few q.line 58 h, field-few q.column 58 k),
)

pub byte-stored : {old o₁ new : List ℕ} {at p₁ r : ℕ} (p : ℕ) → p < 18446744073709551616 → Stored old at (bytes ": byte ") o₁ p₁ → Stored o₁ p₁ (field p 58) new r
    → Stored old at (byte_place p) new r × (r ≤ at + 43)
byte-stored p h a b = (stored-then _ _ a b, omega (arith, a.next, b.next, field-few p 58 h))

abbrev Placed : List ℕ → ℕ → List ℕ → ℕ → List ℕ → Type 0
Placed old at new r x = Stored old at x new r × (r ≤ at + 43)

module _ {old new : List ℕ} {at r : ℕ} (t : List ℕ) (lined : Bool) (p : ℕ) where
  by : (b : Bool) → not lined || ltb (length t) p ≡ b → Placed old at new r (cond b (byte_place p) (line_place (position_at t p))) → Placed old at new r (place_in t lined p)
  by b e s = (stored-as (ap (λ (x : Bool). cond x (byte_place p) (line_place (position_at t p))) (sym e)) s.0, s.1)

  pub placed-bytes : lined ≡ false → Placed old at new r (byte_place p) → Placed old at new r (place_in t lined p)
  placed-bytes e s = by true (ap (λ (x : Bool). not x || ltb (length t) p) e) s

  pub placed_past : lined ≡ true → length t < p → Placed old at new r (byte_place p) → Placed old at new r (place_in t lined p)
  placed_past e h s = by true (ap (λ (x : Bool). not x || ltb (length t) p) e ∙ lt-ltb (length t) p h) s

  pub placed-line : {q : Position} → lined ≡ true → p ≤ length t → q ≡ position_at t p → Placed old at new r (line_place q) → Placed old at new r (place_in t lined p)
  placed-line e h d s =
      by false (ap (λ (x : Bool). not x || ltb (length t) p) e ∙ le-ltb (length t) p h) (stored-as (ap line_place d) s.0, s.1)

-- the file and the place
module _ {old mid new : List ℕ} {at r : ℕ} (f : File) (x : Refusal) (few : length f.name ≤ 4096) where
  pub spot-whole : x.reason ≡ LettersDiffer → Stored old 0 f.name mid at → Stored mid at (bytes ":") new r → Stored old 0 (spot f x) new r × (r ≤ 4139)
  spot-whole e s t =
      (stored-as (ap (λ (q : Reason). f.name ++ place_for q f x.place) (sym e)) (stored-then f.name _ s t), omega (arith, s.next, t.next))

  pub spot-place : (x.reason ≡ LettersDiffer → ⊥) → Stored old 0 f.name mid at → Stored mid at (place_in f.held f.lined x.place) new r × (r ≤ at + 43)
      → Stored old 0 (spot f x) new r × (r ≤ 4139)
  spot-place e s t = (stored-as (ap (f.name ++◌) (elsewhere x.reason e)) (stored-then f.name _ s t.0), omega (arith, s.next, t.1))
    where
      elsewhere : (q : Reason) → (q ≡ LettersDiffer → ⊥) → place_in f.held f.lined x.place ≡ place_for q f x.place
      elsewhere LettersDiffer h = absurd (h refl)
      elsewhere _ h = refl

-- which file
abbrev Named : List ℕ → List ℕ → ℕ → List ℕ → Type 0
Named old new r y = Stored old 0 y new r × (r ≤ 4139)

abbrev chosen : List ℕ → File → File → Refusal → Bool → Bool → List ℕ
chosen program one two x a b = cond a (spot one x) (cond b (spot two x) (program ++ bytes ":"))

module _ {old new : List ℕ} {r k : ℕ} (program : List ℕ) (one two : File) (x : Refusal) (which : k ≡ file_of_value x.part) where
  as-named : (a b : Bool) → eqb k 1 ≡ a → eqb k 2 ≡ b → Named old new r (chosen program one two x a b) → Named old new r (culprit program one two x)
  as-named a b e d s = (
    stored-as ((λ i. chosen program one two x (sym e i) (sym d i)) ∙ ap (λ (m : ℕ). chosen program one two x (eqb m 1) (eqb m 2)) which) s.0,
    s.1,
  )

  pub named-first : k ≡ 1 → Named old new r (spot one x) → Named old new r (culprit program one two x)
  named-first e s = as-named true (eqb k 2) (eq-eqb k 1 e) refl s

  pub named-second : k ≡ 2 → Named old new r (spot two x) → Named old new r (culprit program one two x)
  named-second e s = as-named false true (ne_eqb k 1 (λ d. omega arith)) (eq-eqb k 2 e) s

  pub named-program : (k ≡ 1 → ⊥) → (k ≡ 2 → ⊥) → Named old new r (program ++ bytes ":") → Named old new r (culprit program one two x)
  named-program e d s = as-named false false (ne_eqb k 1 e) (ne_eqb k 2 d) s

-- the reason
pub reason-stored : {old o₁ o₂ o₃ o₄ new t : List ℕ} {at p₁ p₂ p₃ p₄ r w : ℕ} (q : Reason) → w ≡ number_of q → w < 256 → t ≡ sentence q
    → Stored old at (bytes " refusal ") o₁ p₁ → Stored o₁ p₁ (field w 58) o₂ p₂ → Stored o₂ p₂ (bytes " ") o₃ p₃ → Stored o₃ p₃ t o₄ p₄
    → Stored o₄ p₄ (bytes "\n") new r → Stored old at (reason_line q) new r × (r ≤ at + 112)
reason-stored {t = t} {w = w} q i h j a b c d e = (
  stored-as (λ k. bytes " refusal " ++ field (i k) 58 ++ bytes " " ++ j k ++ bytes "\n")
      (stored-then _ _ (stored-then _ _ (stored-then _ _ (stored-then _ _ a b) c) d) e),
  omega (arith, a.next, b.next, c.next, d.next, e.next, ap length j, sentence-short q, field-few w 58 (omega arith)),
)

pub words-shown : {old mid new : List ℕ} {at r : ℕ} (program : List ℕ) (one two : File) (x : Refusal) → 4352 ≤ length old
    → Stored old 0 (culprit program one two x) mid at × (at ≤ 4139) → Stored mid at (reason_line x.reason) new r × (r ≤ at + 112) → Shows (refusal_words_of program one two x) old new r
unfolding refusal_words_of
words-shown program one two x h a b = stored-shows {room = 4352} (stored-then _ _ a.0 b.0) (omega (arith, a.1, b.1)) h
