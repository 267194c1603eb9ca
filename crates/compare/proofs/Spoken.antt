-- What is said on standard error, out of the texts that it is stored by. Assumes nothing.
use mathlib.Core.Path.{◌≡◌, ap, sym}
use mathlib.Core.Bool.{Bool, true, false, cond}
use mathlib.Core.List.{List, ◌++◌}
use Prim.Native.Nat.{ℕ, ◌+◌, ◌*◌, ◌≤◌, ◌<◌}
use native.Mathlib.Omega.{arith}
use lib.Dec.{eqb}
use lib.ListN.{length, get_or}
use borrow.Author.Tests.{eq-eqb, ne_eqb}
use Rattle.slices.specs.Tables.{rows}
use Rattle.slices.specs.Texts.{bytes}
use Rattle.numbers.specs.Digits.{field}
use Rattle.numbers.specs.Storing.{Stored}
use Rattle.numbers.proofs.Stores.{stored-then, stored-as, stored_row}
use Rattle.standing.specs.declared.Standing.{Standing}
use Rattle.inclusion.specs.declared.Comparison.{Comparison}
use Rattle.console.proofs.Printed.{field-few}
use Rattle.compare.specs.Said.{ending, scenes_of, scene_line, standing_words, names_text, missing_words}

-- the byte after a scene
pub ends-line : (m i : ℕ) → i + 1 ≡ m → 10 ≡ ending m i
ends-line m i e = ap (λ (b : Bool). cond b 10 32) (sym (eq-eqb (i + 1) m e))

pub goes_on : (m i : ℕ) → (i + 1 ≡ m → ⊥) → 32 ≡ ending m i
goes_on m i e = ap (λ (b : Bool). cond b 10 32) (sym (ne_eqb (i + 1) m e))

-- a scene more
abbrev pub scene_at : List ℕ → ℕ → List ℕ
scene_at w i = field (get_or w i 0) (ending (length w) i)

pub scene-stored : {old mid new : List ℕ} {at p r x e : ℕ} (w : List ℕ) (i : ℕ) → x ≡ get_or w i 0 → x < 256 → e ≡ ending (length w) i
    → Stored old at (rows i (scene_at w)) mid p → p ≤ at + 21 * i → Stored mid p (field x e) new r
    → Stored old at (rows (i + 1) (scene_at w)) new r × (r ≤ at + 21 * (i + 1))
scene-stored {x = x} {e = e} w i d h f s l t = (
  stored_row i (scene_at w) s (stored-as (λ k. field (d k) (f k)) t),
  omega (arith, t.next, field-few x e (omega arith)),
)

-- a word's line
module _ {old mid new : List ℕ} {at p r : ℕ} (name w : List ℕ) (few : length name ≤ 16) where
  by_length : (b : Bool) → eqb (length w) 0 ≡ b → Stored old at name mid p → Stored mid p (cond b (bytes "none\n") (scenes_of w)) new r → Stored old at (name ++ scene_line w) new r
  by_length b e s t = stored-then name (scene_line w) s (stored-as (ap (λ (c : Bool). cond c (bytes "none\n") (scenes_of w)) (sym e)) t)

  pub none-stored : length w ≡ 0 → Stored old at name mid p → Stored mid p (bytes "none\n") new r → Stored old at (name ++ scene_line w) new r × (r ≤ at + 86032)
  none-stored e s t = (by_length true (eq-eqb (length w) 0 e) s t, omega (arith, s.next, t.next))

  pub some_stored : (length w ≡ 0 → ⊥) → Stored old at name mid p → Stored mid p (scenes_of w) new r × (r ≤ p + 86016) → Stored old at (name ++ scene_line w) new r × (r ≤ at + 86032)
  some_stored e s t = (by_length false (ne_eqb (length w) 0 e) s t.0, omega (arith, s.next, t.1))

-- where a sheet stands
pub stand-stored : {old o₁ o₂ o₃ o₄ new : List ℕ} {at p₁ p₂ p₃ p₄ r : ℕ} (name : List ℕ) (x : Standing) → length name ≤ 4096 → x.waits < 18446744073709551616 → x.ends < 18446744073709551616
    → Stored old at name o₁ p₁ → Stored o₁ p₁ (bytes " waits at place ") o₂ p₂ → Stored o₂ p₂ (field x.waits 32) o₃ p₃ → Stored o₃ p₃ (bytes "and ends at loop place ") o₄ p₄
    → Stored o₄ p₄ (field x.ends 10) new r → Stored old at (standing_words name x) new r × (r ≤ at + 4196)
stand-stored name x l h k a b c d e = (
  (stored-then _ _ (stored-then _ _ (stored-then _ _ (stored-then _ _ a b) c) d) e),
  omega (arith, a.next, b.next, c.next, d.next, e.next, field-few x.waits 32 h, field-few x.ends 10 k),
)

-- two names
pub names-stored : {old o₁ o₂ o₃ o₄ new : List ℕ} {p₁ p₂ p₃ p₄ r : ℕ} (lead one two close : List ℕ) → length lead ≤ 128 → length one ≤ 4096 → length two ≤ 4096 → length close ≤ 128
    → Stored old 0 lead o₁ p₁ → Stored o₁ p₁ one o₂ p₂ → Stored o₂ p₂ (bytes " and rejected by ") o₃ p₃ → Stored o₃ p₃ two o₄ p₄ → Stored o₄ p₄ close new r
    → Stored old 0 (names_text lead one two close) new r × (r ≤ 8500)
names-stored lead one two close h k l m a b c d e = (
  (stored-then _ _ (stored-then _ _ (stored-then _ _ (stored-then _ _ a b) c) d) e),
  omega (arith, a.next, b.next, c.next, d.next, e.next),
)

-- the counter-show
pub missing-stored : {old o₁ o₂ o₃ o₄ new : List ℕ} {p₁ p₂ p₃ p₄ r : ℕ} (one two : List ℕ) (z : Comparison) (u v : List ℕ)
    → Stored old 0 (names_text (bytes "missing: this show closes in both sheets, is accepted by ") one two (bytes ":\n")) o₁ p₁ × (p₁ ≤ 8500)
    → Stored o₁ p₁ (bytes "opening: " ++ scene_line u) o₂ p₂ × (p₂ ≤ p₁ + 86032) → Stored o₂ p₂ (bytes "loop: " ++ scene_line v) o₃ p₃ × (p₃ ≤ p₂ + 86032)
    → Stored o₃ p₃ (standing_words one z.first) o₄ p₄ × (p₄ ≤ p₃ + 4196) → Stored o₄ p₄ (standing_words two z.second) new r × (r ≤ p₄ + 4196)
    → Stored old 0 (missing_words one two z u v) new r × (r ≤ 196608)
missing-stored one two z u v a b c d e = (
  (stored-then _ _ (stored-then _ _ (stored-then _ _ (stored-then _ _ a.0 b.0) c.0) d.0) e.0),
  omega (arith, a.1, b.1, c.1, d.1, e.1),
)
