-- The letters of a lasso, judged. Assumes nothing.
use Rattle.slices.specs.declared.Reason.TheVariants.{EmptyLoop, UnknownLetter}
use Rattle.std.specs.Prelude.{List, ℕ, eqb, length}
use Rattle.slices.specs.declared.Part.TheVariants.{Opening, Loop}
use Rattle.slices.specs.Refusals.{Fault, ◌then◌, when}
use Rattle.slices.specs.Scans.{scan}

-- An empty period, then a letter of it that is not below s.
unfoldable pub period_fault : ℕ → List ℕ → Fault
period_fault s v = when (eqb (length v) 0) EmptyLoop Loop 0 then scan UnknownLetter Loop 0 s v 0 (length v)

-- A letter of the prefix that is not below s, then the faults of the period.
unfoldable pub letters_fault : ℕ → List ℕ → List ℕ → Fault
letters_fault s u v = scan UnknownLetter Opening 0 s u 0 (length u) then period_fault s v
