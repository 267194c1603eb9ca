-- What the call for a verdict says, for any bytes as sheet, prefix and period. Assumes nothing.
use Rattle.slices.specs.declared.Refusal.{Refusal}
use Rattle.std.specs.Prelude.{List, ℕ, Result}
use Rattle.slices.specs.declared.Part.TheVariants.{First}
use Rattle.slices.specs.Refusals.{Fault, ◌then◌, unless, mapped}
use Rattle.slices.specs.LassoLetters.{letters_fault}
use Rattle.fdfa.specs.Acceptance.{Verdict, verdict}
use Rattle.packed.specs.Layout.{letter_count, decode}
use Rattle.packed.specs.Faults.{sheet_fault}
use Rattle.membership.specs.declared.Judgement.{Judgement}

-- The sheet's refusals, then those of the lasso: a letter of the prefix that the sheet has not, an empty period, a
-- letter of the period.
unfoldable pub lasso_fault : List ℕ → List ℕ → List ℕ → Fault
lasso_fault b u v = sheet_fault First b then letters_fault (letter_count b) u v

-- The verdict of the family that the sheet says, or the refusal.
abbrev pub verdict_of : List ℕ → List ℕ → List ℕ → Result Verdict Refusal
verdict_of b u v = unless (lasso_fault b u v) (verdict (decode b) u v)

-- The answer of the code, field by field.
abbrev pub judged : Judgement → Verdict
judged a = record { accepted = a.accepted; i = a.i; j = a.j; state = a.state; end = a.end }

abbrev pub says_of : Result Judgement Refusal → Result Verdict Refusal
says_of x = mapped judged x
