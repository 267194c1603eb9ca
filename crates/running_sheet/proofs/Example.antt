-- Running sheets, byte for byte, and refusals, each at its place and in their order. Assumes nothing.
use Rattle.slices.specs.declared.Reason.TheVariants.{EmptyLoop, UnknownLetter, SecondsRange, TooLittleRoom}
use mathlib.Core.Path.{◌≡◌, refl, ap, ap₂, ◌∙◌}
use mathlib.Core.List.{List, [], ◌∷◌, ◌++◌}
use Prim.Native.Nat.{ℕ, ◌+◌, ◌/◌, ◌%◌, ◌≤◌}
use native.Mathlib.Omega.{arith}
use Rattle.slices.specs.declared.Part.TheVariants.{Opening, Loop, Out, Seconds}
use Rattle.slices.specs.Extremes.{least}
use Rattle.slices.specs.LassoLetters.{period_fault, letters_fault}
use Rattle.slices.specs.Refusals.{sound, fault_of}
use Rattle.slices.specs.Scans.{first_outside_of}
use Rattle.slices.specs.Tables.{tab}
use Rattle.slices.specs.Texts.{bytes}
use Rattle.numbers.specs.Digits.{digits_within, digits_of}
use Rattle.numbers.proofs.Digits.{digits-one, digits_last}
use Rattle.running_sheet.specs.Lines.{loop, part_lines, show_lines, total}
use Rattle.running_sheet.specs.Text.{totals_title, line_text, each_text, totals_text, running_text, running_sheet_of}
use Rattle.running_sheet.specs.Writing.{input_fault, write_fault}

-- the opening 0 1 and the loop 1; the loop 1 0 1 alone; the seconds are 5 and 700
pub sheets :
    (running_sheet_of (0 ∷ 1 ∷ []) (1 ∷ []) (5 ∷ 700 ∷ []) ≡ bytes "part scene seconds\nopening 0 5\nopening 1 700\nloop 1 700\nopening loop\n705 700\n")
    × (running_sheet_of [] (1 ∷ 0 ∷ 1 ∷ []) (5 ∷ 700 ∷ []) ≡ bytes "part scene seconds\nloop 1 700\nloop 0 5\nloop 1 700\nopening loop\n0 1405\n")
unfolding part_lines show_lines total each_text running_text digits_of digits_within
sheets = (refl, refl)

-- the largest letter and seconds
pub largest : line_text (record { part = loop; letter = 255; seconds = 999 }) ≡ bytes "loop 255 999\n"
unfolding digits_of digits_within
largest = refl

-- totals of more than 16 bits: 66 letters of 999 seconds, and 65,536 of them
digit-more : {d : List ℕ} (n : ℕ) → 10 ≤ n → digits_of (n / 10) ≡ d → digits_of n ≡ d ++ ((48 + n % 10) ∷ [])
digit-more n h e = digits_last n h ∙ ap (λ (l : List ℕ). l ++ ((48 + n % 10) ∷ [])) e

of-65934 : digits_of 65934 ≡ bytes "65934"
of-65934 =
    digit-more 65934 (omega arith)
    (digit-more 6593 (omega arith)
    (digit-more 659 (omega arith)
    (digit-more 65 (omega arith) (digits-one 6 (omega arith)))))

of-65470464 : digits_of 65470464 ≡ bytes "65470464"
of-65470464 =
    digit-more 65470464 (omega arith)
    (digit-more 6547046 (omega arith)
    (digit-more 654704 (omega arith)
    (digit-more 65470 (omega arith)
    (digit-more 6547 (omega arith)
    (digit-more 654 (omega arith)
    (digit-more 65 (omega arith) (digits-one 6 (omega arith))))))))

pub large-totals : totals_text 65934 65470464 ≡ bytes "opening loop\n65934 65470464\n"
large-totals =
    ap₂ (λ (a b : List ℕ). totals_title ++ (a ++ bytes " ") ++ (b ++ bytes "\n")) of-65934 of-65470464

-- a letter without a cell, before an empty loop; no cells and an empty loop, or any letter; each of these before a bad cell
pub letters :
    (write_fault (0 ∷ 2 ∷ []) [] (5 ∷ 700 ∷ []) 0 ≡ fault_of UnknownLetter Opening 1) × (write_fault [] [] [] 0 ≡ fault_of EmptyLoop Loop 0)
    × (write_fault [] (0 ∷ []) [] 0 ≡ fault_of UnknownLetter Loop 0) × (write_fault (1 ∷ []) [] (0 ∷ []) 0 ≡ fault_of UnknownLetter Opening 0)
    × (write_fault [] [] (0 ∷ []) 0 ≡ fault_of EmptyLoop Loop 0) × (write_fault [] (0 ∷ 1 ∷ []) (0 ∷ []) 0 ≡ fault_of UnknownLetter Loop 1)
unfolding input_fault letters_fault period_fault first_outside_of least
letters = (refl, refl, refl, refl, refl, refl)

-- the first bad cell of two, of a letter that the show lacks, above the limit; the limits are good; each before the room; the room itself
pub cells :
    (write_fault [] (0 ∷ []) (0 ∷ 0 ∷ []) 0 ≡ fault_of SecondsRange Seconds 0) × (write_fault [] (0 ∷ []) (5 ∷ 0 ∷ []) 0 ≡ fault_of SecondsRange Seconds 1)
    × (write_fault [] (0 ∷ []) (1000 ∷ []) 0 ≡ fault_of SecondsRange Seconds 0) × (write_fault [] (0 ∷ 1 ∷ []) (1 ∷ 999 ∷ []) 0 ≡ fault_of TooLittleRoom Out 59)
    × (write_fault (0 ∷ 1 ∷ []) (1 ∷ []) (5 ∷ 700 ∷ []) 76 ≡ fault_of TooLittleRoom Out 77)
    × (write_fault (0 ∷ 1 ∷ []) (1 ∷ []) (5 ∷ 700 ∷ []) 77 ≡ sound)
unfolding input_fault letters_fault period_fault first_outside_of least part_lines show_lines total each_text running_text digits_of digits_within
cells = (refl, refl, refl, refl, refl, refl)

-- letter 255 with 255 cells and with 256; a bad cell behind 256
pub many :
    (write_fault [] (255 ∷ []) (tab 255 (λ i. 1)) 0 ≡ fault_of UnknownLetter Loop 0) × (write_fault [] (255 ∷ []) (tab 256 (λ i. 1)) 0 ≡ fault_of TooLittleRoom Out 47)
    × (write_fault [] (255 ∷ []) (tab 256 (λ i. 1) ++ (0 ∷ [])) 0 ≡ fault_of SecondsRange Seconds 256)
unfolding tab input_fault letters_fault period_fault first_outside_of least part_lines show_lines total each_text running_text digits_of digits_within
many = (refl, refl, refl)
