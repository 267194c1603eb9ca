-- Every sheet that is read has room: at most 34,850 bytes, and at most 32 seconds. So no form is refused for room. Assumes nothing.
use Rattle.slices.specs.declared.Reason.TheVariants.{TooLittleRoom}
use Rattle.std.specs.Prelude.{Result, Ok, Err}
use Rattle.slices.specs.declared.Refusal.{Refusal}
use mathlib.Core.Path.{◌≡◌, refl, ◌∙◌}
use mathlib.Core.Bool.{Bool, true, false, cond}
use mathlib.Core.List.{List}
use Prim.Native.Nat.{ℕ, ◌≤◌}
use native.Mathlib.Omega.{arith}
use lib.Dec.{eqb}
use lib.ListN.{length}
use borrow.Author.Tests.{le-ltb}
use Rattle.slices.specs.declared.Part.TheVariants.{Out, Seconds}
use Rattle.slices.specs.Refusals.{sound, fault_in}
use Rattle.slices.proofs.Refusals.{passed, when-passes}
use Rattle.packed.specs.Layout.{letter_count, Valid}
use Rattle.packed.proofs.Bounds.{sheet-few}
use Rattle.blocks.specs.Text.{timed}
use Rattle.notation.specs.Reading as notation
use Rattle.notation.specs.Reading.{Sheet, sheet_in, room_fault}
use Rattle.notation.specs.Writing.{Writable}
use Rattle.notation.proofs.Laws as laws
use Rattle.buchi_import.specs.Reading as drawing
use Rattle.buchi_import.specs.Reading.{Numbers, automaton_of, pack_fault}
use Rattle.buchi_import.proofs.Texts.{read-drawable}
use Rattle.buchi_import.proofs.Imported.{pack-says}
use Rattle.sheet_forms.specs.Forms.{drawn_bytes}

pub valid-few : (b : List ℕ) → Valid b → length b ≤ 34850
valid-few b v = omega (arith, v.exact, sheet-few b v.header)

pub timed-few : (level s : ℕ) → s ≤ 32 → timed level s ≤ 32
unfolding timed
timed-few level s h = by (eqb level 4)
  where
    by : (t : Bool) → cond t s 0 ≤ 32
    by true = h
    by false = omega arith

module _ (room : ℕ) (long : 34850 ≤ room) where
  sheet-room : (x : Sheet) → Writable x → room_fault x room 32 ≡ sound
  sheet-room x w =
      passed _ (when-passes TooLittleRoom Out (length x.bytes) (le-ltb room (length x.bytes) (omega (arith, valid-few x.bytes w.valid))))
      ∙ when-passes TooLittleRoom Seconds (length x.seconds) (le-ltb 32 (length x.seconds) (omega (arith, w.exact, timed-few x.level (letter_count x.bytes) w.valid.header.few_letters)))

  -- a text is refused for what it says alone
  pub text-room : (t : List ℕ) → notation.read_fault (sheet_in t) room 32 ≡ fault_in (sheet_in t)
  text-room t = by (sheet_in t) refl
    where
      by : (x : Result Sheet Refusal) → sheet_in t ≡ x → notation.read_fault x room 32 ≡ fault_in x
      by (Ok x) e = sheet-room x (laws.read-text t x e).0
      by (Err r) e = refl

  -- and so is an automaton
  pub drawn-few : (t : List ℕ) (w : Numbers) → drawing.numbers_of t ≡ Ok w → length (drawn_bytes w) ≤ 34850
  drawn-few t w e = valid-few (drawn_bytes w) (pack-says (automaton_of w) (read-drawable t w e)).valid

  pub drawn-room : (t : List ℕ) → drawing.read_fault t room ≡ fault_in (drawing.numbers_of t)
  unfolding drawing.read_fault
  drawn-room t = by (drawing.numbers_of t) refl
    where
      by : (x : Result Numbers Refusal) → drawing.numbers_of t ≡ x → pack_fault x room ≡ fault_in x
      by (Ok w) e = when-passes TooLittleRoom Out (length (drawn_bytes w)) (le-ltb room (length (drawn_bytes w)) (omega (arith, drawn-few t w e)))
      by (Err r) e = refl
