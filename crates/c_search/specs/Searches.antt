-- What the searches for C say and write, for any bytes. Assumes nothing.
use Rattle.slices.specs.declared.Refusal.{Refusal}
use Rattle.std.specs.Prelude.{◌≡◌, false, List, [], ◌∷◌, ℕ, ltb, length, replicate, Result}
use Rattle.fdfa.specs.Inclusion as model
use Rattle.fdfa.specs.Inclusion.{comparison, emptiness}
use Rattle.slices.specs.Refusals.{Fault, unless}
use Rattle.slices.specs.Filling.{filled}
use Rattle.packed.specs.Layout.{decode}
use Rattle.lasso_search.specs.Lassos.{prefix_of, period_of}
use Rattle.inclusion.specs.declared.Comparison.{Comparison}
use Rattle.inclusion.specs.declared.Outcome.{Outcome}
use Rattle.inclusion.specs.declared.Outcome.TheVariants.{Absent, Found}
use Rattle.inclusion.specs.Outcomes.{answer_of}
use Rattle.inclusion.specs.Calls.{Slices, lasso, call_fault, compare_cells, compare_start, empty_cells, empty_start}
use Rattle.inclusion.specs.Calls.{DecidesInclusion, DecidesEmptiness}
use Rattle.answers.specs.Layout.{numbers_of, unless_short, Told}

-- Whether there is a lasso, R, its lengths, where the first sheet waits and ends, and where the second does.
abbrev pub comparison_numbers_of : ℕ → Comparison → List ℕ
comparison_numbers_of found z =
    found ∷ z.reached ∷ z.prefix ∷ z.period
    ∷ z.first.waits ∷ z.first.ends ∷ z.second.waits ∷ z.second.ends ∷ []

abbrev pub search_numbers_of : Outcome → List ℕ
search_numbers_of (Absent z) = comparison_numbers_of 0 z
search_numbers_of (Found z) = comparison_numbers_of 1 z

-- The slices that are lent to be written, beside the sheets.
pub record SearchSlices : Type 0 where
  pub prefix : List ℕ
  pub period : List ℕ
  pub work : List ℕ
  pub answer : List ℕ

abbrev pub searched : SearchSlices → Slices
searched l = record { opening = l.prefix; period = l.period; work = l.work }

-- What a search says, where `start` is its refusal before the search and C its answer.
abbrev pub search_says : Fault → model.Comparison → SearchSlices → Result Outcome Refusal
search_says start C l = unless (call_fault start C (searched l)) (answer_of C)

-- What it returns and leaves in the lent slices, where it needs so many cells of work.
pub record SearchTold (start : Fault) (C : model.Comparison) (cells : ℕ) (before after : SearchSlices) (r : ℕ)
    : Type 0 where
  pub tells : Told 9 (numbers_of search_numbers_of (search_says start C before)) before.answer after.answer r
  pub prefix : after.prefix
      ≡ unless_short 9 before.answer before.prefix
      (filled (call_fault start C (searched before)) (prefix_of C.witness) before.prefix)
  pub period : after.period
      ≡ unless_short 9 before.answer before.period
      (filled (call_fault start C (searched before)) (period_of C.witness) before.period)
  pub work : after.work
      ≡ unless_short 9 before.answer before.work (filled start (replicate cells 0) before.work)

-- The comparison of two sheets; the third demand holds of it where the answer slice is long enough.
abbrev pub compared_start : List ℕ → List ℕ → SearchSlices → Fault
compared_start b c l = compare_start b c (length l.work)

pub record ComparedTold (b c : List ℕ) (before after : SearchSlices) (r : ℕ) : Type 0 where
  pub settles :
      SearchTold (compared_start b c before) (comparison (decode b) (decode c)) (compare_cells b c) before after r
  pub decides : ltb (length before.answer) 72 ≡ false
      → DecidesInclusion (decode b) (decode c) (lasso (searched after))
      (search_says (compared_start b c before) (comparison (decode b) (decode c)) before)

-- The test of emptiness.
abbrev pub emptied_start : List ℕ → SearchSlices → Fault
emptied_start b l = empty_start b (length l.work)

pub record EmptiedTold (b : List ℕ) (before after : SearchSlices) (r : ℕ) : Type 0 where
  pub settles : SearchTold (emptied_start b before) (emptiness (decode b)) (empty_cells b) before after r
  pub decides : ltb (length before.answer) 72 ≡ false
      → DecidesEmptiness (decode b) (lasso (searched after))
      (search_says (emptied_start b before) (emptiness (decode b)) before)
