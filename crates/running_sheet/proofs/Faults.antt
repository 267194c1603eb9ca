-- Which refusal is met, from what the code knows where it meets it; and what holds where none is. Assumes nothing.
use Rattle.slices.specs.declared.Reason.TheVariants.{TooLittleRoom, PartTooLong}
use mathlib.Core.Path.{◌≡◌, sym, ◌∙◌}
use mathlib.Core.List.{List}
use Prim.Native.Nat.{ℕ, ◌≤◌, ◌<◌}
use native.Mathlib.Omega.{arith}
use lib.Dec.{ltb}
use lib.ListN.{length}
use borrow.Author.Tests.{lt-ltb, le-ltb, ltb-false}
use Rattle.slices.specs.declared.Part.{Part}
use Rattle.slices.specs.declared.Part.TheVariants.{Opening, Loop, Seconds}
use Rattle.slices.specs.Refusals.{Fault, sound, fault_of, ◌then◌}
use Rattle.slices.specs.LassoLetters.{letters_fault}
use Rattle.slices.specs.Seconds.{seconds_fault, TimesFit}
use Rattle.slices.proofs.Refusals.{when-fails, when-passes, passed, failed, then-left, then-right, when-sound}
use Rattle.slices.proofs.Timings.{seconds-fit, fit-seconds}
use Rattle.fdfa.specs.Words.{Over}
use Rattle.fdfa.proofs.Words.{over-letter}
use Rattle.fdfa.proofs.Letters.{letters-lasso, lasso-letters}
use Rattle.running_sheet.specs.Writing.{long_fault, cell_fault, input_fault, Printable}
use Rattle.running_sheet.specs.Steps.{Measurable}

-- all cells are judged, so there are not too few
pub all-cells : (w : List ℕ) → seconds_fault (length w) w ≡ cell_fault w
unfolding seconds_fault
all-cells w = passed _ (when-passes TooLittleRoom Seconds (length w) (le-ltb (length w) (length w) (omega arith)))

module _ (u v : List ℕ) where
  abbrev pub lengths : Fault
  lengths = long_fault Opening u then long_fault Loop v

  pub long-opening : 65536 < length u → lengths ≡ fault_of PartTooLong Opening 65536
  long-opening h = failed _ (when-fails PartTooLong Opening 65536 (lt-ltb 65536 (length u) h))

  module _ (few : length u ≤ 65536) where
    past-opening : lengths ≡ long_fault Loop v
    past-opening = passed _ (when-passes PartTooLong Opening 65536 (le-ltb 65536 (length u) few))

    pub long-loop : 65536 < length v → lengths ≡ fault_of PartTooLong Loop 65536
    long-loop h = past-opening ∙ when-fails PartTooLong Loop 65536 (lt-ltb 65536 (length v) h)

    pub not-long : length v ≤ 65536 → lengths ≡ sound
    not-long h = past-opening ∙ when-passes PartTooLong Loop 65536 (le-ltb 65536 (length v) h)

few : (part : Part) (x : List ℕ) → long_fault part x ≡ sound → length x ≤ 65536
few part x e = ltb-false 65536 (length x) (when-sound (ltb 65536 (length x)) PartTooLong part 65536 e)

-- nothing is refused exactly where the show has a running sheet
module _ (u v w : List ℕ) where
  pub sound-printable : input_fault u v w ≡ sound → Printable u v w
  unfolding input_fault
  sound-printable e = record {
    lasso = letters-lasso (length w) u v (then-left (letters_fault (length w) u v) (cell_fault w then lengths u v) e);
    times = seconds-fit (length w) w (all-cells w ∙ then-left (cell_fault w) (lengths u v) cells);
    prefix_few = few Opening u (then-left (long_fault Opening u) (long_fault Loop v) both);
    period_few = few Loop v (then-right (long_fault Opening u) (long_fault Loop v) both);
  }
    where
      cells : (cell_fault w then lengths u v) ≡ sound
      cells = then-right (letters_fault (length w) u v) (cell_fault w then lengths u v) e

      both : lengths u v ≡ sound
      both = then-right (cell_fault w) (lengths u v) cells

  pub printable-sound : Printable u v w → input_fault u v w ≡ sound
  unfolding input_fault
  printable-sound p =
      passed _ (lasso-letters (length w) u v p.lasso)
      ∙ (passed _ (sym (all-cells w) ∙ fit-seconds (length w) w p.times) ∙ not-long u v p.prefix_few p.period_few)

  -- and then both words can be measured
  word-measurable : (x : List ℕ) → TimesFit (length w) w → length x ≤ 65536 → Over (length w) x → Measurable x w
  word-measurable x t h o = record { few = h; known = over-letter o; times = λ a l. (t.good a l).1 }

  pub measurable : Printable u v w → Measurable u w × Measurable v w
  measurable p =
      (word-measurable u p.times p.prefix_few p.lasso.prefix, word-measurable v p.times p.period_few p.lasso.period)
