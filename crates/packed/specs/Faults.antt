-- Which refusal a packed sheet gets, 1 to 6 of 01, for any bytes. Assumes nothing.
use Rattle.slices.specs.declared.Reason.TheVariants.{SheetLength, LetterCount, StateCount, ProgressSize, NextState}
use Rattle.slices.specs.declared.Reason.TheVariants.{MarkByte, LettersDiffer}
use Rattle.slices.specs.declared.Refusal.{Refusal}
use Rattle.packed.specs.declared.BothSizes.{BothSizes}
use Rattle.std.specs.Prelude.{not, List, ℕ, zero, suc, ◌*◌, eqb, ltb, length, Result}
use Rattle.slices.specs.declared.Part.{Part}
use Rattle.slices.specs.declared.Part.TheVariants.{First, Second}
use Rattle.fdfa.specs.Inclusion.{widest}
use Rattle.slices.specs.Refusals.{Fault, sound, ◌then◌, when, unless}
use Rattle.slices.specs.Scans.{outside, scan}
use Rattle.packed.specs.Layout.{letter_count, state_count, size_of, leading_at, progress_at_value, marks_at}
use Rattle.packed.specs.Layout.{sheet_length, decode}
use Rattle.packed.specs.declared.Sizes.{Sizes}

-- The progress automata of c leading states from q on: next states below the size, then marks 0 or 1.
unfoldable pub progress_fault : Part → List ℕ → ℕ → ℕ → Fault
progress_fault part b q zero = sound
progress_fault part b q (suc c) =
    scan NextState part 0 (size_of b q) b (progress_at_value b q) (size_of b q * letter_count b)
    then scan MarkByte part 0 2 b (marks_at b q) (size_of b q)
    then progress_fault part b (suc q) c

-- The counts, which run from 1 to 32: 1 (two bytes), 2, 3, 1 (sizes), 4.
unfoldable pub header_fault : Part → List ℕ → Fault
header_fault part b =
    when (ltb (length b) 2) SheetLength part (length b)
    then when (outside 1 33 (letter_count b)) LetterCount part 0
    then when (outside 1 33 (state_count b)) StateCount part 1
    then when (ltb (length b) (leading_at b)) SheetLength part (length b)
    then scan ProgressSize part 1 33 b 2 (state_count b)

-- The tables: 1 (whole), then the first offending byte for 5 or 6.
unfoldable pub tables_fault : Part → List ℕ → Fault
tables_fault part b =
    when (not (eqb (length b) (sheet_length b))) SheetLength part (length b)
    then scan NextState part 0 (state_count b) b (leading_at b) (state_count b * letter_count b)
    then progress_fault part b 0 (state_count b)

unfoldable pub sheet_fault : Part → List ℕ → Fault
sheet_fault part b = header_fault part b then tables_fault part b

abbrev pub sizes_of : List ℕ → Sizes
sizes_of b = record { letters = letter_count b; states = state_count b; widest = widest (decode b) }

-- What the check of a sheet says: its sizes, or the refusal.
abbrev pub checked : Part → List ℕ → Result Sizes Refusal
checked part b = unless (sheet_fault part b) (sizes_of b)

-- Two sheets: the first, the second, then 7 where their letter counts differ.
abbrev pub second_fault : ℕ → List ℕ → Fault
second_fault letters c = sheet_fault Second c then when (not (eqb letters (letter_count c))) LettersDiffer Second 0

abbrev pub pair_fault : List ℕ → List ℕ → Fault
pair_fault b c = sheet_fault First b then second_fault (letter_count b) c

abbrev pub checked_pair : List ℕ → List ℕ → Result BothSizes Refusal
checked_pair b c = unless (pair_fault b c) (record { first = sizes_of b; second = sizes_of c })
