-- What is said on standard error, out of the texts that it is stored by. Assumes nothing.
use mathlib.Core.Path.{◌≡◌, ap, sym, ◌∙◌}
use mathlib.Core.Bool.{Bool, true, false, cond, ◌&&◌}
use mathlib.Core.List.{List, ◌++◌}
use Prim.Native.Nat.{ℕ, ◌≤◌}
use native.Mathlib.Omega.{arith}
use lib.Dec.{eqb}
use lib.ListN.{length}
use Rattle.slices.specs.declared.Refusal.{Refusal}
use Rattle.slices.specs.Texts.{bytes}
use Rattle.numbers.specs.Storing.{Stored}
use Rattle.numbers.proofs.Stores.{stored-then}
use Rattle.console.specs.Printed.{Shows}
use Rattle.console.proofs.Printed.{shows-as, stored-shows}
use Rattle.wording.specs.declared.Position.{Position}
use Rattle.wording.specs.Words.{File, line_place, is_scene_of, scene_position_of, show_words_of}
use Rattle.show_files.specs.Shown.{openings}
use Rattle.durations_files.specs.Decided.{cell_count}
use Rattle.durations.specs.Said.{is_untimed_of, untimed_words, refused_words}

-- whether a scene has no seconds
module _ (b : List ℕ) (r : Refusal) where
  pub no-scene : is_scene_of r ≡ false → false ≡ is_untimed_of b r
  no-scene e = ap (λ (x : Bool). x && eqb (cell_count b) 0) (sym e)

  pub by_count : {k : ℕ} → is_scene_of r ≡ true → k ≡ cell_count b → eqb k 0 ≡ is_untimed_of b r
  by_count e d = ap (λ (n : ℕ). eqb n 0) d ∙ ap (λ (x : Bool). x && eqb (cell_count b) 0) (sym e)

-- its words
pub untimed-shown : {old o₁ o₂ o₃ new : List ℕ} {p₁ p₂ p₃ r : ℕ} (one two : List ℕ) (q : Position) → length one ≤ 4096 → 8448 ≤ length old
    → Stored old 0 (two ++ line_place q) o₁ p₁ × (p₁ ≤ 4139) → Stored o₁ p₁ (bytes " refusal 9: this scene has no seconds, ") o₂ p₂ → Stored o₂ p₂ one o₃ p₃
    → Stored o₃ p₃ (bytes " is a text of level three\n") new r → Shows (untimed_words one two q) old new r
untimed-shown one two q h k a b c d =
    stored-shows {room = 8448} (stored-then _ _ (stored-then _ _ (stored-then _ _ a.0 b) c) d) (omega (arith, a.1, b.next, c.next, d.next)) k

-- either way
abbrev chosen : File → File → Refusal → Bool → ℕ → List ℕ
chosen one two x b m = cond b (untimed_words one.name two.name (scene_position_of m x)) (show_words_of (bytes "durations") one two m x)

module _ (one two : File) (x : Refusal) {m : ℕ} (count : m ≡ openings two.held) {old new : List ℕ} {n : ℕ} where
  as_said : (b : Bool) → is_untimed_of one.held x ≡ b → Shows (chosen one two x b m) old new n → Shows (refused_words one two x) old new n
  as_said b e s = shows-as (λ i. chosen one two x (sym e i) (count i)) s

  pub said-untimed : {q : Position} → is_untimed_of one.held x ≡ true → q ≡ scene_position_of m x → Shows (untimed_words one.name two.name q) old new n
      → Shows (refused_words one two x) old new n
  said-untimed e d s = as_said true e (shows-as (ap (untimed_words one.name two.name) d) s)

  pub said-other : is_untimed_of one.held x ≡ false → Shows (show_words_of (bytes "durations") one two m x) old new n → Shows (refused_words one two x) old new n
  said-other e s = as_said false e s
