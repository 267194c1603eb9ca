-- A refusal of a scene, and where it stands in the show's text. Assumes nothing.
use mathlib.Core.Path.{◌≡◌, ap, sym, ◌∙◌}
use mathlib.Core.Bool.{Bool, true, false, cond, ◌&&◌}
use mathlib.Core.List.{List, ◌++◌}
use Prim.Native.Nat.{ℕ, ◌+◌, ◌≤◌, ◌<◌}
use native.Mathlib.Omega.{arith}
use lib.Dec.{eqb, ltb}
use lib.ListN.{length}
use borrow.Author.Tests.{ltb-true, eq-eqb, ne_eqb}
use Rattle.slices.specs.declared.Refusal.{Refusal}
use Rattle.slices.proofs.Tests.{and_right}
use Rattle.numbers.specs.Storing.{Stored}
use Rattle.numbers.proofs.Stores.{stored-then}
use Rattle.console.specs.Printed.{Shows}
use Rattle.console.proofs.Printed.{shows-as, stored-shows}
use Rattle.wording.specs.declared.Position.{Position}
use Rattle.wording.specs.Words.{File, line_place, reason_line, refusal_words_of, show_part_of, is_unknown_letter, is_scene_of, scene_position_of, is_long_of, long_opening, long_loop, long_words, part_words_of, show_words_of}

pub scene-within : (x : Refusal) → is_scene_of x ≡ true → x.place < 4096
scene-within x e =
    ltb-true x.place 4096
    (and_right (ltb 0 (show_part_of x.part)) (ltb x.place 4096)
    (and_right (is_unknown_letter x.reason) (ltb 0 (show_part_of x.part) && ltb x.place 4096) e))

-- where it stands
module _ (m : ℕ) (x : Refusal) {k : ℕ} (h : k ≡ show_part_of x.part) where
  by : (b : Bool) → eqb k 1 ≡ b
      → ◌≡◌ {A = Position} (cond b (record { line = x.place + 2; column = 9 }) (record { line = m + x.place + 2; column = 6 })) (scene_position_of m x)
  by b e = ap (λ (t : Bool). cond t (record { line = x.place + 2; column = 9 }) (record { line = m + x.place + 2; column = 6 })) (sym e ∙ ap (λ (j : ℕ). eqb j 1) h)

  pub in_opening : k ≡ 1 → ◌≡◌ {A = Position} (record { line = x.place + 2; column = 9 }) (scene_position_of m x)
  in_opening e = by true (eq-eqb k 1 e)

  pub in-loop : (k ≡ 1 → ⊥) → ◌≡◌ {A = Position} (record { line = m + x.place + 2; column = 6 }) (scene_position_of m x)
  in-loop e = by false (ne_eqb k 1 e)

-- the words
pub scene-stored : {old mid new : List ℕ} {at r : ℕ} (name : List ℕ) (q : Position) → length name ≤ 4096 → Stored old 0 name mid at
    → Stored mid at (line_place q) new r × (r ≤ at + 43) → Stored old 0 (name ++ line_place q) new r × (r ≤ 4139)
scene-stored name q h a b = (stored-then name (line_place q) a b.0, omega (arith, a.next, b.1))

module _ (program : List ℕ) (one two : File) (m : ℕ) (x : Refusal) {old new : List ℕ} {r : ℕ} where
  as-shown : (b : Bool) → is_scene_of x ≡ b → Shows (cond b (two.name ++ line_place (scene_position_of m x) ++ reason_line x.reason) (part_words_of program one two x)) old new r
      → Shows (show_words_of program one two m x) old new r
  unfolding show_words_of
  as-shown b e s =
      shows-as (ap (λ (c : Bool). cond c (two.name ++ line_place (scene_position_of m x) ++ reason_line x.reason) (part_words_of program one two x)) (sym e)) s

  pub scene-shown : {q : Position} {mid : List ℕ} {at : ℕ} → is_scene_of x ≡ true → q ≡ scene_position_of m x → 4352 ≤ length old
      → Stored old 0 (two.name ++ line_place q) mid at × (at ≤ 4139) → Stored mid at (reason_line x.reason) new r × (r ≤ at + 112)
      → Shows (show_words_of program one two m x) old new r
  scene-shown {q} e d h a b =
      as-shown true e
      (shows-as (ap (λ (p : Position). two.name ++ line_place p ++ reason_line x.reason) d)
      (stored-shows {room = 4352} (stored-then _ _ a.0 b.0) (omega (arith, a.1, b.1)) h))

  pub other-shown : is_scene_of x ≡ false → Shows (part_words_of program one two x) old new r → Shows (show_words_of program one two m x) old new r
  other-shown e s = as-shown false e s

-- a part that is too long
module _ (name : List ℕ) (x : Refusal) {k : ℕ} (h : k ≡ show_part_of x.part) {old mid new : List ℕ} {at r : ℕ} (few : length name ≤ 4096) (room : 4352 ≤ length old) (a : Stored old 0 name mid at) where
  as_long : (b : Bool) → eqb k 1 ≡ b → Shows (cond b (name ++ long_opening) (name ++ long_loop)) old new r → Shows (long_words name x) old new r
  as_long b e s = shows-as (ap (λ (c : Bool). cond c (name ++ long_opening) (name ++ long_loop)) (sym e ∙ ap (λ (j : ℕ). eqb j 1) h)) s

  pub long-opening : k ≡ 1 → Stored mid at long_opening new r → Shows (long_words name x) old new r
  long-opening e b =
      as_long true (eq-eqb k 1 e) (stored-shows {room = 4352} (stored-then name long_opening a b) (omega (arith, a.next, b.next)) room)

  pub long-loop : (k ≡ 1 → ⊥) → Stored mid at long_loop new r → Shows (long_words name x) old new r
  long-loop e b =
      as_long false (ne_eqb k 1 e) (stored-shows {room = 4352} (stored-then name long_loop a b) (omega (arith, a.next, b.next)) room)

module _ (program : List ℕ) (one two : File) (x : Refusal) {old new : List ℕ} {r : ℕ} where
  as-part : (b : Bool) → is_long_of x ≡ b → Shows (cond b (long_words two.name x) (refusal_words_of program one two x)) old new r → Shows (part_words_of program one two x) old new r
  unfolding part_words_of
  as-part b e s = shows-as (ap (λ (c : Bool). cond c (long_words two.name x) (refusal_words_of program one two x)) (sym e)) s

  pub long-shown : is_long_of x ≡ true → Shows (long_words two.name x) old new r → Shows (part_words_of program one two x) old new r
  long-shown e s = as-part true e s

  pub part-shown : is_long_of x ≡ false → Shows (refusal_words_of program one two x) old new r → Shows (part_words_of program one two x) old new r
  part-shown e s = as-part false e s
