-- What the calls below answer, as the packed sheet of a file. Assumes nothing.
use Rattle.std.specs.Prelude.{Result, Ok, Err}
use mathlib.Core.Path.{◌≡◌, refl, ap, ap₂, sym, subst, ◌∙◌}
use mathlib.Core.Bool.{Bool, cond}
use mathlib.Core.List.{List, [], ◌∷◌}
use Prim.Native.Nat.{ℕ, ◌≤◌}
use native.Mathlib.Omega.{arith}
use lib.Dec.{eqb}
use lib.ListN.{length, get_or}
use borrow.Author.Tests.{eq-eqb, ne_eqb}
use Rattle.slices.specs.declared.Part.{Part}
use Rattle.slices.specs.declared.Refusal.{Refusal}
use Rattle.slices.specs.Refusals.{Fault, fault, unless, mapped, fault_in}
use Rattle.slices.specs.Filling.{written, filled, Fills}
use Rattle.slices.proofs.Refusals.{faulty, never-given, refused-was, was-given, was-refused, sound-given}
use Rattle.packed.specs.declared.Sizes.{Sizes}
use Rattle.packed.specs.Faults.{sheet_fault, sizes_of, checked}
use Rattle.packed.proofs.Soundness.{sound-valid}
use Rattle.notation.specs.declared.Levelled.{Levelled}
use Rattle.notation.specs.Reading as notation
use Rattle.notation.specs.Reading.{Sheet, sheet_in, said, SheetRead}
use Rattle.notation.proofs.Taken.{read-refused}
use Rattle.buchi_import.specs.Reading as drawing
use Rattle.buchi_import.specs.Reading.{Numbers, numbers_of, bytes_in, bytes_of}
use Rattle.sheet_forms.specs.declared.Form.{Form}
use Rattle.sheet_forms.specs.declared.Form.TheVariants.{Text, Drawn, Packed}
use Rattle.sheet_forms.specs.Forms.{form_of, form_in_value, of_part_of, in_part, sheet_bytes, drawn_bytes, sheet_as, FillsWith}
use Rattle.sheet_forms.proofs.Rooms.{valid-few, text-room, drawn-room}
use Rattle.sheet_forms.proofs.Results.{result-refused, result-given}

-- the form that the first byte tells
pub form-none : (b : List ℕ) → length b ≡ 0 → Packed ≡ form_of b
unfolding form_of
form-none [] e = refl
form-none (x ∷ b) e = absurd (omega arith)

module _ (b : List ℕ) where
  abbrev by_tests : Bool → Bool → Form
  by_tests x y = cond x Text (cond y Drawn Packed)

  pub form-text : get_or b 0 0 ≡ 108 → Text ≡ form_of b
  unfolding form_of
  form-text e = ap (λ (x : Bool). by_tests x (eqb (get_or b 0 0) 91)) (sym (eq-eqb (get_or b 0 0) 108 e))

  pub form-drawn : get_or b 0 0 ≡ 91 → Drawn ≡ form_of b
  unfolding form_of
  form-drawn e =
      sym (ap₂ by_tests (ne_eqb (get_or b 0 0) 108 (λ d. let z : ◌≡◌ {A = ℕ} 91 108 = sym e ∙ d in omega arith)) (eq-eqb (get_or b 0 0) 91 e))

  pub form-packed : (get_or b 0 0 ≡ 108 → ⊥) → (get_or b 0 0 ≡ 91 → ⊥) → Packed ≡ form_of b
  unfolding form_of
  form-packed e d = sym (ap₂ by_tests (ne_eqb (get_or b 0 0) 108 e) (ne_eqb (get_or b 0 0) 91 d))

pub form-as : {any : Bool} (b : List ℕ) (x : Bool) {r : Form} → any ≡ x → r ≡ form_in_value x b → r ≡ form_in_value any b
form-as b x e d = d ∙ ap (λ (y : Bool). form_in_value y b) (sym e)

-- what was read of a file that is text, turned into bytes
pub fault-refused : {A : Type 0} (x : Result A Refusal) {q : Refusal} → fault_in x ≡ fault q → x ≡ Err q
fault-refused (Ok a) e = absurd (faulty (sym e))
fault-refused (Err r) {q} e = let d : r ≡ q = cc in ap Err d

module _ {A : Type 0} (f : A → List ℕ) (part : Part) (x : Result A Refusal) {old out : List ℕ} where
  pub packs-refused : {q p : Refusal} → x ≡ Err q → p ≡ of_part_of part q → out ≡ old → FillsWith (in_part part (mapped f x)) old out (Err p)
  packs-refused e d o = result-refused (ap (λ (y : Result A Refusal). in_part part (mapped f y)) e ∙ ap Err (sym d)) o

  pub packs-given : {y : A} {n : ℕ} → x ≡ Ok y → n ≡ length (f y) → out ≡ written (f y) old → FillsWith (in_part part (mapped f x)) old out (Ok n)
  packs-given e l o = result-given (ap (λ (y : Result A Refusal). in_part part (mapped f y)) e) l o

-- a text
module _ (t : List ℕ) (part : Part) {old out cells cells' : List ℕ} {r : Result Levelled Refusal} (long : 34850 ≤ length old) (many : length cells ≡ 32) (h : SheetRead (sheet_in t) old cells out cells' r) where
  abbrev F : Fault
  F = notation.read_fault (sheet_in t) (length old) (length cells)

  judged : F ≡ fault_in (sheet_in t)
  judged = ap (λ (k : ℕ). notation.read_fault (sheet_in t) (length old) k) many ∙ text-room (length old) long t

  text-refused : {q p : Refusal} → r ≡ Err q → p ≡ of_part_of part q → FillsWith (sheet_as Text part t) old out (Err p)
  text-refused {q} e d =
      let g = read-refused h e in
      packs-refused sheet_bytes part (sheet_in t) (fault-refused (sheet_in t) (sym judged ∙ g)) d (h.sheet ∙ ap (λ (f : Fault). filled f (said (sheet_in t)).bytes old) g)

  -- what was read, with the part of the file's place in the call
  pub text-lost : {p : Refusal} → in_part part r ≡ Err p → FillsWith (sheet_as Text part t) old out (Err p)
  text-lost {p} e = by r refl e
    where
      by : (x : Result Levelled Refusal) → r ≡ x → in_part part x ≡ Err p → FillsWith (sheet_as Text part t) old out (Err p)
      by (Ok l) d k = absurd (never-given (sym k))
      by (Err q) d k = text-refused d (sym (refused-was k))

-- an automaton
module _ (t : List ℕ) (part : Part) {old out : List ℕ} {r : Result ℕ Refusal} (long : 34850 ≤ length old) (h : Fills (drawing.read_fault t (length old)) (bytes_of t) old out r) where
  abbrev G : Fault
  G = drawing.read_fault t (length old)

  drawn-refused : {q p : Refusal} → r ≡ Err q → p ≡ of_part_of part q → FillsWith (sheet_as Drawn part t) old out (Err p)
  drawn-refused {q} e d =
      let g = was-refused G (length (bytes_of t)) (sym e ∙ h.says) in
      packs-refused drawn_bytes part (numbers_of t) (fault-refused (numbers_of t) (sym (drawn-room (length old) long t) ∙ g)) d (h.cells ∙ ap (λ (f : Fault). filled f (bytes_of t) old) g)

  drawn-filled : {n : ℕ} → r ≡ Ok n → FillsWith (sheet_as Drawn part t) old out (Ok n)
  unfolding bytes_of
  drawn-filled {n} e =
      let g = was-given G (length (bytes_of t)) (sym e ∙ h.says) in
      let y = sound-given (numbers_of t) (sym (drawn-room (length old) long t) ∙ g.0) in
      packs-given drawn_bytes part (numbers_of t) y.1
      (g.1 ∙ ap (λ (x : Result Numbers Refusal). length (bytes_in x)) y.1)
      (h.cells ∙ (λ i. filled (g.0 i) (bytes_in (y.1 i)) old))

  pub drawn-packed : FillsWith (sheet_as Drawn part t) old out (in_part part r)
  drawn-packed = by r refl
    where
      by : (x : Result ℕ Refusal) → r ≡ x → FillsWith (sheet_as Drawn part t) old out (in_part part x)
      by (Ok n) e = drawn-filled e
      by (Err q) e = drawn-refused e refl

-- a packed sheet
module _ (b : List ℕ) (part : Part) {r : Result Sizes Refusal} (h : r ≡ checked part b) where
  pub kept-room : {z : Sizes} → r ≡ Ok z → length b ≤ 34850
  kept-room {z} e = valid-few b (sound-valid part b (was-given (sheet_fault part b) (sizes_of b) (sym e ∙ h)).0)

  pub kept-refused : (old : List ℕ) {q : Refusal} → r ≡ Err q → FillsWith (sheet_as Packed part b) old old (Err q)
  kept-refused old {q} e =
      let g = was-refused (sheet_fault part b) (sizes_of b) (sym e ∙ h) in
      result-refused (ap (λ (f : Fault). unless f b) g) refl

  pub kept-filled : {old out : List ℕ} {z : Sizes} → r ≡ Ok z → out ≡ written b old → FillsWith (sheet_as Packed part b) old out (Ok (length b))
  kept-filled {old} {out} e o =
      let g = was-given (sheet_fault part b) (sizes_of b) (sym e ∙ h) in
      result-given (ap (λ (f : Fault). unless f b) g.0) refl o

-- whatever the form
pub packs-as : {form : Form} (x : Form) (part : Part) (b : List ℕ) {old out : List ℕ} {r : Result ℕ Refusal} → form ≡ x → FillsWith (sheet_as x part b) old out r → FillsWith (sheet_as form part b) old out r
packs-as x part b {old} {out} {r} e h = subst (λ (y : Form). FillsWith (sheet_as y part b) old out r) (sym e) h
