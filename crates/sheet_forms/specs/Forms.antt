-- A sheet's file in any of its forms: packed, as text of either level, or as a drawn automaton. The first byte tells
-- which. Assumes nothing.
use Rattle.std.specs.Prelude.{Bool, true, false, cond, List, [], ℕ, eqb, get_or, Result, Ok, Err}
use Prim.Native.Char.{code}
use Rattle.slices.specs.declared.Part.{Part}
use Rattle.slices.specs.declared.Refusal.{Refusal}
use Rattle.slices.specs.Refusals.{unless, mapped, fault_in}
use Rattle.slices.specs.Filling.{Fills}
use Rattle.fdfa.specs.Buchi.{from_buchi}
use Rattle.packed.specs.Layout.{pack}
use Rattle.packed.specs.Faults.{sheet_fault}
use Rattle.notation.specs.Reading.{Sheet, sheet_in}
use Rattle.buchi_import.specs.Reading.{Numbers, numbers_of, automaton_of}
use Rattle.sheet_forms.specs.declared.Form.{Form}
use Rattle.sheet_forms.specs.declared.Form.TheVariants.{Text, Drawn, Packed}

-- The form of a file: a text begins with `l`, an automaton with `[`; all else, and a file without a byte, is judged as
-- a packed sheet.
unfoldable pub form_of : List ℕ → Form
form_of b = cond (eqb (get_or b 0 0) (code "l")) Text (cond (eqb (get_or b 0 0) (code "[")) Drawn Packed)

-- A text that stands alone is refused as the first: the part is that of the file's place in the call.
abbrev pub of_part_of : Part → Refusal → Refusal
of_part_of part r = record { reason = r.reason; part = part; place = r.place }

abbrev pub in_part : {A : Type 0} → Part → Result A Refusal → Result A Refusal
in_part part (Ok a) = Ok a
in_part part (Err r) = Err (of_part_of part r)

-- The packed sheet that a file's bytes are, form by form. A text's seconds are passed over.
abbrev pub sheet_bytes : Sheet → List ℕ
sheet_bytes x = x.bytes

abbrev pub drawn_bytes : Numbers → List ℕ
drawn_bytes w = pack (from_buchi (automaton_of w))

abbrev pub sheet_as : Form → Part → List ℕ → Result (List ℕ) Refusal
sheet_as Text part b = in_part part (mapped sheet_bytes (sheet_in b))
sheet_as Drawn part b = in_part part (mapped drawn_bytes (numbers_of b))
sheet_as Packed part b = unless (sheet_fault part b) b

-- The packed sheet that a file's bytes are, or the refusal.
abbrev pub sheet_from : Part → List ℕ → Result (List ℕ) Refusal
sheet_from part b = sheet_as (form_of b) part b

-- The forms that a file may have: any, or packed only.
abbrev pub form_in_value : Bool → List ℕ → Form
form_in_value true b = form_of b
form_in_value false b = Packed

-- Whether a form has lines.
abbrev pub is_text_of : Form → Bool
is_text_of Text = true
is_text_of Drawn = true
is_text_of Packed = false

-- The bytes, if any.
abbrev pub bytes_from : Result (List ℕ) Refusal → List ℕ
bytes_from (Ok b) = b
bytes_from (Err r) = []

-- A call that fills the out slice with the bytes of a result, or refuses.
abbrev pub FillsWith : Result (List ℕ) Refusal → List ℕ → List ℕ → Result ℕ Refusal → Type 0
FillsWith x old out r = Fills (fault_in x) (bytes_from x) old out r
