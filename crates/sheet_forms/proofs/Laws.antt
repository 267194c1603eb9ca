-- No bytes are good in two forms: a packed sheet begins with a number from 1 to 32, a text with `l`, an automaton with `[`. So a file that is good
-- in some form is taken in that form, and no other. Assumes nothing.
use Rattle.std.specs.Prelude.{Result, Ok}
use Rattle.slices.specs.declared.Refusal.{Refusal}
use mathlib.Core.Path.{◌≡◌, refl, ap, sym, ◌∙◌}
use mathlib.Core.List.{List}
use Prim.Native.Nat.{ℕ, ◌≤◌}
use native.Mathlib.Omega.{arith}
use lib.ListN.{get_or}
use Rattle.slices.specs.declared.Part.{Part}
use Rattle.slices.specs.Refusals.{Fault, sound, unless, mapped}
use Rattle.fdfa.specs.Buchi.{Dba}
use Rattle.packed.specs.Faults.{sheet_fault}
use Rattle.packed.proofs.Soundness.{sound-valid}
use Rattle.format.specs.Format.{printed, seq, each}
use Rattle.blocks.specs.Text.{text_of}
use Rattle.notation.specs.Reading.{Sheet, sheet_in}
use Rattle.notation.specs.Writing.{sheet_text}
use Rattle.notation.proofs.Laws as notation
use Rattle.buchi_import.specs.Text.{buchi_text}
use Rattle.buchi_import.specs.Reading.{Numbers, numbers_of, automaton_of}
use Rattle.buchi_import.proofs.Texts as drawing
use Rattle.sheet_forms.specs.declared.Form.{Form}
use Rattle.sheet_forms.specs.declared.Form.TheVariants.{Text, Drawn, Packed}
use Rattle.sheet_forms.specs.Forms.{form_of, in_part, sheet_bytes, drawn_bytes, sheet_as, sheet_from}
use Rattle.sheet_forms.proofs.Answers.{form-text, form-drawn, form-packed}

-- the first byte of each form
pub packed-first : (part : Part) (b : List ℕ) → sheet_fault part b ≡ sound → (1 ≤ get_or b 0 0) × (get_or b 0 0 ≤ 32)
packed-first part b e = let v = sound-valid part b e in (v.header.some_letters, v.header.few_letters)

text-begins : (x : Sheet) → get_or (sheet_text x) 0 0 ≡ 108
unfolding text_of printed seq each
text-begins x = refl

drawn-begins : (D : Dba) → get_or (buchi_text D) 0 0 ≡ 91
unfolding buchi_text
drawn-begins D = refl

pub text-first : (b : List ℕ) (x : Sheet) → sheet_in b ≡ Ok x → get_or b 0 0 ≡ 108
text-first b x e = ap (λ (t : List ℕ). get_or t 0 0) (sym (notation.read-text b x e).1) ∙ text-begins x

pub drawn-first : (b : List ℕ) (w : Numbers) → numbers_of b ≡ Ok w → get_or b 0 0 ≡ 91
drawn-first b w e = ap (λ (t : List ℕ). get_or t 0 0) (sym (drawing.read-text b w e)) ∙ drawn-begins (automaton_of w)

-- The bytes are good in a form.
pub data Good (part : Part) (b : List ℕ) : Form → Type 0 where
  good_text : (x : Sheet) → sheet_in b ≡ Ok x → Good part b Text
  good_drawn : (w : Numbers) → numbers_of b ≡ Ok w → Good part b Drawn
  good_packed : sheet_fault part b ≡ sound → Good part b Packed

-- what is good in a form is taken in that form
pub good-form : (part : Part) (b : List ℕ) (f : Form) → Good part b f → form_of b ≡ f
good-form part b Text (good_text x e) = sym (form-text b (text-first b x e))
good-form part b Drawn (good_drawn w e) = sym (form-drawn b (drawn-first b w e))
good-form part b Packed (good_packed e) =
    let h = packed-first part b e in
    sym (form-packed b (λ d. omega (arith, h.1, d)) (λ d. omega (arith, h.1, d)))

-- No bytes are good in two forms, whatever the parts.
pub one_form : (p q : Part) (b : List ℕ) (f g : Form) → Good p b f → Good q b g → f ≡ g
one_form p q b f g x y = sym (good-form p b f x) ∙ good-form q b g y

-- So each form is read from a file as it is read alone.
module _ (part : Part) (b : List ℕ) where
  taken : (f : Form) → Good part b f → sheet_from part b ≡ sheet_as f part b
  taken f g = ap (λ (x : Form). sheet_as x part b) (good-form part b f g)

  pub text-taken : (x : Sheet) → sheet_in b ≡ Ok x → sheet_from part b ≡ Ok x.bytes
  text-taken x e = taken Text (good_text x e) ∙ ap (λ (y : Result Sheet Refusal). in_part part (mapped sheet_bytes y)) e

  pub drawn-taken : (w : Numbers) → numbers_of b ≡ Ok w → sheet_from part b ≡ Ok (drawn_bytes w)
  drawn-taken w e = taken Drawn (good_drawn w e) ∙ ap (λ (y : Result Numbers Refusal). in_part part (mapped drawn_bytes y)) e

  pub packed-taken : sheet_fault part b ≡ sound → sheet_from part b ≡ Ok b
  packed-taken e = taken Packed (good_packed e) ∙ ap (λ (y : Fault). unless y b) e
