-- The order of refusals, of the call itself: letters, cells, lengths, room. Assumes nothing.
use Rattle.slices.specs.declared.Reason.TheVariants.{PartTooLong}
use mathlib.Core.Path.{◌≡◌, ◌∙◌}
use mathlib.Core.List.{List}
use Prim.Native.Nat.{ℕ, ◌≤◌, ◌<◌}
use lib.ListN.{length}
use Rattle.slices.specs.declared.Part.TheVariants.{Opening, Loop, Out}
use Rattle.slices.specs.declared.Refusal.{Refusal}
use Rattle.slices.specs.Refusals.{sound, fault, fault_of, short}
use Rattle.slices.specs.LassoLetters.{letters_fault}
use Rattle.slices.proofs.Refusals.{passed, failed}
use Rattle.running_sheet.specs.Text.{running_sheet_of}
use Rattle.running_sheet.specs.Writing.{cell_fault, input_fault, write_fault, Printable}
use Rattle.running_sheet.proofs.Faults.{lengths, long-opening, long-loop, printable-sound}

module _ (u v w : List ℕ) (room : ℕ) where
  -- for cells, lengths and rooms of every kind
  pub letters-first : {r : Refusal} → letters_fault (length w) u v ≡ fault r → write_fault u v w room ≡ fault r
  unfolding input_fault
  letters-first e = failed _ (failed _ e)

  module _ (known : letters_fault (length w) u v ≡ sound) where
    -- for lengths and rooms of every kind
    pub cells-second : {r : Refusal} → cell_fault w ≡ fault r → write_fault u v w room ≡ fault r
    unfolding input_fault
    cells-second e = failed _ (passed _ known ∙ failed _ e)

    module _ (good : cell_fault w ≡ sound) where
      lengths-third : {r : Refusal} → lengths u v ≡ fault r → write_fault u v w room ≡ fault r
      unfolding input_fault
      lengths-third e = failed _ (passed _ known ∙ (passed _ good ∙ e))

      -- for rooms of every kind
      pub opening-third : 65536 < length u → write_fault u v w room ≡ fault_of PartTooLong Opening 65536
      opening-third h = lengths-third (long-opening u v h)

      pub loop-fourth : length u ≤ 65536 → 65536 < length v → write_fault u v w room ≡ fault_of PartTooLong Loop 65536
      loop-fourth few h = lengths-third (long-loop u v few h)

  pub room-last : Printable u v w → write_fault u v w room ≡ short Out room (length (running_sheet_of u v w))
  room-last p = passed _ (printable-sound u v w p)
