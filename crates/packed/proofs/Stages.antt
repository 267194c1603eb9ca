-- Which refusal a sheet gets, from what the code knows where it meets a test: n, s, k and `at` are its own numbers. Assumes nothing.
use Rattle.slices.specs.declared.Reason.TheVariants.{SheetLength, LetterCount, StateCount, ProgressSize, NextState}
use Rattle.slices.specs.declared.Reason.TheVariants.{MarkByte}
use mathlib.Core.Path.{◌≡◌, ap, sym, ◌∙◌}
use mathlib.Core.Bool.{true, false}
use mathlib.Core.List.{List}
use Prim.Native.Nat.{ℕ, suc, ◌+◌, ◌*◌, ◌-◌, ◌≤◌, ◌<◌}
use native.Mathlib.Omega.{arith}
use native.Mathlib.Numerals.{add-one}
use lib.ListN.{length}
use borrow.Author.Tests.{lt-ltb, le-ltb, eq-eqb, ne_eqb}
use Rattle.slices.specs.declared.Part.{Part}
use Rattle.slices.specs.Refusals.{sound, fault_of, ◌then◌}
use Rattle.slices.specs.Scans.{outside, first_outside_of, scan}
use Rattle.packed.specs.Layout.{letter_count, state_count, size_of, progress_at_value, sheet_length}
use Rattle.packed.specs.Faults.{progress_fault, header_fault, tables_fault}

-- the counts
module _ (part : Part) (b : List ℕ) where
  pub no-counts : length b < 2 → header_fault part b ≡ fault_of SheetLength part (length b)
  unfolding header_fault
  no-counts h = rw (lt-ltb _ 2 h)

  module _ (two : 2 ≤ length b) where
    pub bad-letters : outside 1 33 (letter_count b) ≡ true → header_fault part b ≡ fault_of LetterCount part 0
    unfolding header_fault
    bad-letters e = rw (le-ltb _ 2 two, e)

    module _ (letters : outside 1 33 (letter_count b) ≡ false) where
      pub bad-states : outside 1 33 (state_count b) ≡ true → header_fault part b ≡ fault_of StateCount part 1
      unfolding header_fault
      bad-states e = rw (le-ltb _ 2 two, letters, e)

      module _ (states : outside 1 33 (state_count b) ≡ false) {n : ℕ} (count : n ≡ state_count b) where
        pub no-sizes : length b < 2 + n → header_fault part b ≡ fault_of SheetLength part (length b)
        unfolding header_fault
        no-sizes h = rw (le-ltb _ 2 two, letters, states, ← count, lt-ltb _ _ h)

        module _ (sizes : 2 + n ≤ length b) {q : ℕ} (stops : q ≡ first_outside_of 1 33 b 2 n) where
          pub bad-size : q < n → header_fault part b ≡ fault_of ProgressSize part (2 + q)
          unfolding header_fault
          bad-size h = rw (le-ltb _ 2 two, letters, states, ← count, le-ltb _ _ sizes, ← stops, lt-ltb _ _ h)

          pub good-counts : n ≤ q → header_fault part b ≡ sound
          unfolding header_fault
          good-counts h = rw (le-ltb _ 2 two, letters, states, ← count, le-ltb _ _ sizes, ← stops, le-ltb _ _ h)

-- the length and the leading table
module _ (part : Part) (b : List ℕ) where
  pub bad-length : (length b ≡ sheet_length b → ⊥) → tables_fault part b ≡ fault_of SheetLength part (length b)
  unfolding tables_fault
  bad-length h = rw (ne_eqb _ _ h)

  module _ (exact : length b ≡ sheet_length b) {n s i : ℕ} (count : n ≡ state_count b) (letters : s ≡ letter_count b) (stops : i ≡ first_outside_of 0 n b (2 + n) (n * s)) where
    pub bad-leading : i < n * s → tables_fault part b ≡ fault_of NextState part (2 + n + i)
    unfolding tables_fault
    bad-leading h = rw (eq-eqb _ _ exact, ← count, ← letters, ← stops, lt-ltb _ _ h)

    pub good-leading : n * s ≤ i → tables_fault part b ≡ progress_fault part b 0 n
    unfolding tables_fault
    good-leading h = rw (eq-eqb _ _ exact, ← count, ← letters, ← stops, le-ltb _ _ h)

-- the progress automata from q on: the next states of q's, its marks, and those after it
module _ (part : Part) (b : List ℕ) {q n at k s i : ℕ} (begin : at ≡ progress_at_value b q) (size : k ≡ size_of b q) (letters : s ≡ letter_count b) (more : q < n) (next : i ≡ first_outside_of 0 k b at (k * s)) where
  here : progress_fault part b q (n - q) ≡ scan NextState part 0 k b at (k * s) then scan MarkByte part 0 2 b (at + k * s) k then progress_fault part b (suc q) (n - (q + 1))
  unfolding progress_fault
  here =
      ap (progress_fault part b q) left
      ∙ sym (λ j. scan NextState part 0 (size j) b (begin j) (size j * letters j) then scan MarkByte part 0 2 b (begin j + size j * letters j) (size j) then progress_fault part b (suc q) (n - (q + 1)))
    where
      left : n - q ≡ suc (n - (q + 1))
      left = omega arith

  pub bad-next : i < k * s → progress_fault part b q (n - q) ≡ fault_of NextState part (at + i)
  bad-next h = here ∙ rw (← next, lt-ltb _ _ h)

  module _ {p : ℕ} (good : k * s ≤ i) (marks : p ≡ first_outside_of 0 2 b (at + k * s) k) where
    pub bad-mark : p < k → progress_fault part b q (n - q) ≡ fault_of MarkByte part (at + k * s + p)
    bad-mark h = here ∙ rw (← next, le-ltb _ _ good, ← marks, lt-ltb _ _ h)

    pub good-state : k ≤ p → progress_fault part b q (n - q) ≡ progress_fault part b (q + 1) (n - (q + 1))
    good-state h = here ∙ rw (← next, le-ltb _ _ good, ← marks, le-ltb _ _ h, ← add-one q)
