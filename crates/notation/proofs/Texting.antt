-- Writing a text, outcome by outcome. Assumes nothing.
use Rattle.slices.specs.declared.Reason.TheVariants.{TooLittleRoom}
use Rattle.std.specs.Prelude.{Result}
use Rattle.slices.specs.declared.Refusal.{Refusal}
use mathlib.Core.Path.{◌≡◌, sym, subst, ◌∙◌}
use mathlib.Core.List.{List}
use Prim.Native.Nat.{ℕ, ◌≤◌, ◌<◌}
use lib.Dec.{ltb}
use lib.ListN.{length}
use borrow.Author.Tests.{lt-ltb, le-ltb}
use Rattle.slices.specs.declared.Part.TheVariants.{Out}
use Rattle.slices.specs.Refusals.{Fault, sound, fault, when}
use Rattle.slices.specs.Filling.{Fills}
use Rattle.slices.specs.Seconds.{TimesFit}
use Rattle.slices.proofs.Refusals.{when-fails, when-passes}
use Rattle.packed.specs.Layout.{letter_count, decode, Valid}
use Rattle.packed.proofs.Soundness.{valid-packable}
use Rattle.blocks.specs.Text.{timed, text_of}
use Rattle.blocks.specs.Lines.{lines_of}
use Rattle.blocks.proofs.Texts.{text-lines}
use Rattle.notation.specs.Writing.{out_fault}

-- the lines are the text
pub text-is : (level : ℕ) (w b : List ℕ) → Valid b → 3 ≤ level → level < 5 → TimesFit (timed level (letter_count b)) w → lines_of level w (decode b) ≡ text_of level w b
unfolding text_of
text-is level w b v low high t = sym (text-lines (decode b) (valid-packable b v) level low high w t)

-- the room
module _ (text old : List ℕ) {need : ℕ} (e : length text ≡ need) where
  pub too_short_lem : length old < need → out_fault text (length old) ≡ fault (record { reason = TooLittleRoom; part = Out; place = need })
  too_short_lem h = (λ i. when (ltb (length old) (e i)) TooLittleRoom Out (e i)) ∙ when-fails TooLittleRoom Out need (lt-ltb (length old) need h)

  pub enough : need ≤ length old → out_fault text (length old) ≡ sound
  enough h = (λ i. when (ltb (length old) (e i)) TooLittleRoom Out (e i)) ∙ when-passes TooLittleRoom Out need (le-ltb (length old) need h)

-- tests that were passed before
pub fills-after : {f g : Fault} {new old out : List ℕ} {r : Result ℕ Refusal} → f ≡ g → Fills g new old out r → Fills f new old out r
fills-after {new = new} {old = old} {out = out} {r = r} e h = subst (λ (x : Fault). Fills x new old out r) (sym e) h
