-- What the cart program is refused for, in its order.
use Rattle.slices.specs.declared.Reason.TheVariants.{SheetLength, EmptyLoop, UnknownLetter, OffLayout}
use mathlib.Core.Path.{◌≡◌, refl}
use mathlib.Core.List.{List, [], ◌∷◌}
use Prim.Native.Nat.{ℕ}
use Rattle.slices.specs.declared.Part.TheVariants.{First, Second, Loop}
use Rattle.slices.specs.Extremes.{least}
use Rattle.slices.specs.Refusals.{Fault, fault_of, fault_in}
use Rattle.slices.specs.Scans.{first_outside_of}
use Rattle.slices.specs.Halves.{half_bytes_of}
use Rattle.slices.specs.Tables.{rows, sum}
use Rattle.slices.specs.Texts.{bytes}
use Rattle.packed.specs.Layout.{progress_at_value}
use Rattle.packed.specs.Faults.{progress_fault, header_fault, tables_fault, sheet_fault}
use Rattle.numbers.specs.Numerals.{run_of, value_of, number_at_value}
use Rattle.format.specs.Format.{reading, seq, each}
use Rattle.format.specs.Lines.{labelled, repeats, repeated}
use Rattle.lasso_text.specs.Reading.{words_of}
use Rattle.sheet_forms.specs.Forms.{form_of}
use Rattle.carts.specs.Layout.{each_show}
use Rattle.carts.specs.Reading.{shows_from, end_from}
use Rattle.carts.specs.Faults.{layout_fault, show_fault, shows_fault, cart_fault}
use Rattle.cart_files.specs.Decided.{first_fault, shows_in, decided}

-- sheet B of 01
abbrev b : List ℕ
b = 2 ∷ 1 ∷ 2 ∷ 0 ∷ 0 ∷ 1 ∷ 0 ∷ 1 ∷ 1 ∷ 0 ∷ 1 ∷ []

abbrev says : List ℕ → List (List ℕ) → Fault
says sheet ts = fault_in (decided sheet ts)

-- a bad sheet before an empty text; an empty text behind one whose scene B has not; the first of two texts; that scene
pub refusals :
    (says (2 ∷ []) ([] ∷ []) ≡ fault_of SheetLength First 1) × (says b (bytes "part scene\nloop 2\n" ∷ [] ∷ []) ≡ fault_of OffLayout Second 0)
    × (says b (bytes "part scene\n" ∷ [] ∷ []) ≡ fault_of EmptyLoop Second 11)
    × (says b (bytes "part scene\nloop 0\n" ∷ bytes "part scene\nloop 2\n" ∷ []) ≡ fault_of UnknownLetter Loop 10)
unfolding decided first_fault shows_in words_of reading seq each labelled repeated repeats least number_at_value run_of value_of first_outside_of form_of sheet_fault header_fault tables_fault progress_fault progress_at_value sum each_show half_bytes_of rows shows_from end_from layout_fault show_fault shows_fault cart_fault
refusals = (refl, refl, refl, refl)
