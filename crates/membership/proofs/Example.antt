-- A verdict whole, where the end after j turns is another than after one, and the order of refusals.
use Rattle.slices.specs.declared.Reason.TheVariants.{SheetLength, EmptyLoop, UnknownLetter}
use Rattle.std.specs.Prelude.{Ok}
use mathlib.Core.Path.{◌≡◌, refl}
use mathlib.Core.Bool.{true}
use mathlib.Core.List.{List, [], ◌∷◌}
use Prim.Native.Nat.{ℕ}
use Rattle.slices.specs.declared.Part.TheVariants.{First, Opening, Loop}
use Rattle.slices.specs.Extremes.{least}
use Rattle.slices.specs.LassoLetters.{period_fault, letters_fault}
use Rattle.slices.specs.Refusals.{fault_of}
use Rattle.slices.specs.Scans.{first_outside_of}
use Rattle.slices.specs.Tables.{sum}
use Rattle.fdfa.specs.Normalization.{return_from, returning}
use Rattle.packed.specs.Layout.{progress_at_value}
use Rattle.packed.specs.Faults.{progress_fault, header_fault, tables_fault, sheet_fault}
use Rattle.membership.specs.Verdict.{lasso_fault, verdict_of}

-- one letter; two leading states in turn; the first has three progress states in turn, the last one marked
abbrev turning : List ℕ
turning = 1 ∷ 2 ∷ 3 ∷ 1 ∷ 1 ∷ 0 ∷ 1 ∷ 2 ∷ 0 ∷ 0 ∷ 0 ∷ 1 ∷ 0 ∷ 0 ∷ []

pub whole : verdict_of turning [] (0 ∷ []) ≡ Ok (record { accepted = true; i = 0; j = 2; state = 0; end = 2 })
unfolding least return_from returning sum progress_at_value first_outside_of progress_fault header_fault tables_fault sheet_fault period_fault letters_fault lasso_fault
whole = refl

pub refusals :
    (lasso_fault (2 ∷ []) (7 ∷ []) [] ≡ fault_of SheetLength First 1) × (lasso_fault turning (0 ∷ 7 ∷ []) [] ≡ fault_of UnknownLetter Opening 1)
    × (lasso_fault turning [] [] ≡ fault_of EmptyLoop Loop 0) × (lasso_fault turning [] (0 ∷ 7 ∷ []) ≡ fault_of UnknownLetter Loop 1)
unfolding least sum progress_at_value first_outside_of progress_fault header_fault tables_fault sheet_fault period_fault letters_fault lasso_fault
refusals = (refl, refl, refl, refl)
