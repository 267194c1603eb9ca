-- What the numbers of a cursor and of a pass come to: a part that is opening or loop is that word and any other has no letters, the rest
-- that is told is the rest and lies where it does, and what a pass tells it is taken up from. Assumes nothing.
use Rattle.slices.specs.declared.Reason.TheVariants.{EmptyLoop, CursorPastEnd}
use Rattle.std.specs.Prelude.{Err}
use mathlib.Core.Path.{◌≡◌, refl, ap}
use mathlib.Core.Bool.{Bool, true, false, cond}
use mathlib.Core.List.{List, [], ◌∷◌}
use Prim.Native.Nat.{ℕ, ◌+◌}
use lib.Dec.{eqb, leb}
use lib.ListN.{length, get_or, drop, take}
use lib.Seq.{take_all}
use native.Mathlib.Omega.{arith}
use native.Mathlib.Nat.{add-zero}
use borrow.Author.Tests.{ne_eqb, le-leb}
use Rattle.slices.specs.declared.Part.TheVariants as part
use Rattle.slices.specs.Refusals.{Fault, ◌then◌, when}
use Rattle.fdfa.specs.Pass.{Pass, reached, unknown, start}
use Rattle.cursor.specs.declared.Phase.{Phase}
use Rattle.cursor.specs.declared.Phase.TheVariants.{Prefix, Period}
use Rattle.cursor.specs.declared.Cursor.{Cursor}
use Rattle.cursor.specs.Walking.{word_of, named, stepped, if_sound, rest_of, lies, rest_lies}
use Rattle.c_walk.specs.Cursors.{cursor_of_value, prefix_for_value, phase_number_of, step_result, rest_numbers_of, word_numbered, letters_told}
use Rattle.c_walk.specs.Passes.{held_of, pass_numbers}

module _ (at : ℕ) (u v : List ℕ) where
  -- the opening and the loop are the cursor's two words
  pub opening-steps : stepped (cursor_of_value 2 at) (prefix_for_value 2 u) v ≡ stepped (record { phase = Prefix; at = at }) u v
  opening-steps = refl

  pub loop-steps : stepped (cursor_of_value 3 at) (prefix_for_value 3 u) v ≡ stepped (record { phase = Period; at = at }) u v
  loop-steps = refl

  pub opening-rests : rest_numbers_of (cursor_of_value 2 at) (prefix_for_value 2 u) v ≡ rest_numbers_of (record { phase = Prefix; at = at }) u v
  opening-rests = refl

  pub loop-rests : rest_numbers_of (cursor_of_value 3 at) (prefix_for_value 3 u) v ≡ rest_numbers_of (record { phase = Period; at = at }) u v
  loop-rests = refl

-- What is told of the rest is the rest.
pub rest-told : (c : Cursor) (u v : List ℕ) → letters_told (rest_numbers_of c u v) u v ≡ rest_of c u v
rest-told c u v = by_tests (eqb (length v) 0) (leb (length (named c u v)) c.at)
  where
    tests : Bool → Bool → Fault
    tests b d = when b EmptyLoop part.Loop 0 then when d CursorPastEnd part.Cursor c.at

    rest : Bool → Bool → List ℕ
    rest b d = if_sound (tests b d) (drop c.at (named c u v)) []

    whole : (p : Phase) → take (length (drop c.at (word_of p u v))) (drop c.at (word_numbered (phase_number_of p) u v)) ≡ drop c.at (word_of p u v)
    whole Prefix = take_all (length (drop c.at u)) (drop c.at u) (omega arith)
    whole Period = take_all (length (drop c.at v)) (drop c.at v) (omega arith)

    by_tests : (b d : Bool) → letters_told (if_sound (tests b d) (phase_number_of c.phase ∷ c.at ∷ length (rest b d) ∷ []) (2 ∷ 0 ∷ 0 ∷ [])) u v ≡ rest b d
    by_tests true d = refl
    by_tests false true = refl
    by_tests false false = whole c.phase

-- A cursor is had back from its numbers.
pub cursor-again : (c : Cursor) → cursor_of_value (phase_number_of c.phase) c.at ≡ c
cursor-again c = ap (λ (p : Phase). record { phase = p; at = c.at }) (phase-again c.phase)
  where
    phase-again : (p : Phase) → (cursor_of_value (phase_number_of p) 0).phase ≡ p
    phase-again Prefix = refl
    phase-again Period = refl

-- A part that is neither: its position is past the end once the loop has letters, and the empty rest at the opening's start.
module _ (k at : ℕ) (u v : List ℕ) (opening : k ≡ 2 → ⊥) (loop : k ≡ 3 → ⊥) where
  pub other-steps : (length v ≡ 0 → ⊥)
      → step_result (stepped (cursor_of_value k at) (prefix_for_value k u) v) ≡ Err (record { reason = CursorPastEnd; part = part.Cursor; place = at })
  other-steps some =
      let l : leb 0 at ≡ true = le-leb 0 at (omega arith) in
      rw (ne_eqb k 2 opening, ne_eqb k 3 loop, ne_eqb (length v) 0 some, l)

  pub other-rests : rest_numbers_of (cursor_of_value k at) (prefix_for_value k u) v ≡ 2 ∷ 0 ∷ 0 ∷ []
  other-rests =
      let l : leb 0 at ≡ true = le-leb 0 at (omega arith) in
      rw (ne_eqb k 2 opening, ne_eqb k 3 loop, l) (by_loop (eqb (length v) 0) _)
    where
      by_loop : (b : Bool) (there : List ℕ)
          → if_sound (when b EmptyLoop part.Loop 0 then when true CursorPastEnd part.Cursor at) there (2 ∷ 0 ∷ 0 ∷ []) ≡ 2 ∷ 0 ∷ 0 ∷ []
      by_loop true there = refl
      by_loop false there = refl

-- Where part and offset say that the rest lies, by block and offset, is where it lies.
abbrev pub lies_told : List ℕ → ℕ × ℕ → ℕ × ℕ → ℕ × ℕ
lies_told ns p q = ((cond (eqb (get_or ns 0 0) 2) p q).0, (cond (eqb (get_or ns 0 0) 2) p q).1 + get_or ns 1 0)

pub rest-lies : (c : Cursor) (u v : List ℕ) (p q : ℕ × ℕ) → lies_told (rest_numbers_of c u v) p q ≡ rest_lies c u v p q
rest-lies c u v p q = by_tests (eqb (length v) 0) (leb (length (named c u v)) c.at)
  where
    tests : Bool → Bool → Fault
    tests b d = when b EmptyLoop part.Loop 0 then when d CursorPastEnd part.Cursor c.at

    there : (x : Phase) → lies_told (phase_number_of x ∷ c.at ∷ length (rest_of c u v) ∷ []) p q ≡ ((lies x p q).0, (lies x p q).1 + c.at)
    there Prefix = refl
    there Period = refl

    at-start : lies_told (2 ∷ 0 ∷ 0 ∷ []) p q ≡ p
    at-start = λ i. (p.0, add-zero p.1 i)

    by_tests : (b d : Bool) → lies_told (if_sound (tests b d) (phase_number_of c.phase ∷ c.at ∷ length (rest_of c u v) ∷ []) (2 ∷ 0 ∷ 0 ∷ [])) p q
        ≡ if_sound (tests b d) ((lies c.phase p q).0, (lies c.phase p q).1 + c.at) p
    by_tests true d = at-start
    by_tests false true = at-start
    by_tests false false = there c.phase

-- A pass is taken up from what it tells: before the first letter 0 0 0, once failed 1 0 and the position.
pub held-again : (p : Pass) → held_of (get_or (pass_numbers p) 0 0) (get_or (pass_numbers p) 1 0) (get_or (pass_numbers p) 2 0) ≡ p
held-again (reached q i) = refl
held-again (unknown i) = refl

pub start-told : pass_numbers start ≡ 0 ∷ 0 ∷ 0 ∷ []
start-told = refl

pub failed-told : (i : ℕ) → pass_numbers (unknown i) ≡ 1 ∷ 0 ∷ i ∷ []
failed-told i = refl

pub failed-held : (f q i : ℕ) → (f ≡ 0 → ⊥) → held_of f q i ≡ unknown i
failed-held f q i h = rw (ne_eqb f 0 h)
