-- What the comparison and the test of emptiness say and write, for any bytes. Assumes nothing.
use Rattle.slices.specs.declared.Reason.TheVariants.{TooFewCells}
use Rattle.slices.specs.declared.Refusal.{Refusal}
use Rattle.std.specs.Prelude.{◌≡◌, true, false, List, ℕ, ◌+◌, ◌*◌, ltb, length, take, replicate, Result, Ok, Err}
use Rattle.slices.specs.declared.Part.TheVariants.{First, Work}
use Rattle.slices.specs.Refusals.{Fault, ◌then◌, when, unless}
use Rattle.slices.specs.Filling.{filled}
use Rattle.fdfa.specs.Family.{Fdfa, Lasso}
use Rattle.fdfa.specs.Acceptance.{accepts}
use Rattle.fdfa.specs.Inclusion as model
use Rattle.fdfa.specs.Inclusion.{Counterexample, Accepted, Counts, Reached, ReachedPair, pairs, combinations, widest}
use Rattle.fdfa.specs.Inclusion.{comparison, emptiness}
use Rattle.fdfa.specs.Invariance.{TurnProof}
use Rattle.packed.specs.Layout.{decode}
use Rattle.packed.specs.Faults.{sheet_fault, pair_fault}
use Rattle.lasso_search.specs.Lassos.{Lent, room_fault, prefix_of, period_of}
use Rattle.inclusion.specs.declared.Outcome.{Outcome}
use Rattle.inclusion.specs.declared.Outcome.TheVariants.{Absent, Found}
use Rattle.inclusion.specs.Outcomes.{answer_of}

-- The slices that a call is lent.
pub record Slices : Type 0 where
  pub opening : List ℕ
  pub period : List ℕ
  pub work : List ℕ

-- Those that the lasso is written to.
abbrev pub lasso : Slices → Lent
lasso l = record { opening = l.opening; period = l.period }

-- What a call can be refused for: before the search, or for the lasso's room.
abbrev pub call_fault : Fault → model.Comparison → Slices → Fault
call_fault start C l = start then room_fault C.witness (lasso l)

-- What a call says and leaves in the lent slices, where `start` is its refusal before the search, C its answer and
-- `cells` what the search needs: the lasso is written where both parts of it fit, and the cells are 0 from the search
-- on.
pub record Settled (start : Fault) (C : model.Comparison) (cells : ℕ) (before after : Slices)
    (r : Result Outcome Refusal) : Type 0 where
  pub says : r ≡ unless (call_fault start C before) (answer_of C)
  pub opening : after.opening ≡ filled (call_fault start C before) (prefix_of C.witness) before.opening
  pub period : after.period ≡ filled (call_fault start C before) (period_of C.witness) before.period
  pub work : after.work ≡ filled start (replicate cells 0) before.work

-- The cells that the search needs.
abbrev pub cells_fault : ℕ → ℕ → Fault
cells_fault cells work = when (ltb work cells) TooFewCells Work cells

-- N + N × K cells of work; before the search: first sheet, second sheet, letters that differ, too few cells.
abbrev pub compare_cells : List ℕ → List ℕ → ℕ
compare_cells b c = pairs (decode b) (decode c) + combinations (decode b) (decode c)

abbrev pub compare_start : List ℕ → List ℕ → ℕ → Fault
compare_start b c work = pair_fault b c then cells_fault (compare_cells b c) work

-- The third demand. R counts the pairs that prefixes of whatever length reach. Absent: no lasso, of whatever length,
-- closes in both, is accepted by the first and rejected by the second, and where both are turn_proof no lasso at all is
-- accepted by the first and rejected by the second. Found: the first of all those that close in both.
abbrev pub DecidesInclusion : Fdfa → Fdfa → Lent → Result Outcome Refusal → Type 0
DecidesInclusion F G after (Ok (Absent z)) =
    Counts (ReachedPair F G) (pairs F G) z.reached
    × ((u v : List ℕ) → Counterexample F G u v → ⊥)
    × (TurnProof F → TurnProof G → (u v : List ℕ) → Lasso F.letters u v → accepts F u v ≡ true →
    accepts G u v ≡ false → ⊥)
DecidesInclusion F G after (Ok (Found z)) =
    Counts (ReachedPair F G) (pairs F G) z.reached
    × model.First (Counterexample F G) (take z.prefix after.opening) (take z.period after.period)
DecidesInclusion F G after (Err r) = Unit {0}

-- The comparison of two sheets.
pub record Compared (b c : List ℕ) (before after : Slices) (r : Result Outcome Refusal) : Type 0 where
  pub settles : Settled (compare_start b c (length before.work)) (comparison (decode b) (decode c))
      (compare_cells b c) before after r
  pub decides : DecidesInclusion (decode b) (decode c) (lasso after) r

-- Emptiness: n + n × K cells, K the size of the largest progress automaton; before the search: the sheet, too
-- few cells.
abbrev pub empty_cells : List ℕ → ℕ
empty_cells b = (decode b).states + (decode b).states * widest (decode b)

abbrev pub empty_start : List ℕ → ℕ → Fault
empty_start b work = sheet_fault First b then cells_fault (empty_cells b) work

-- R counts the leading states that prefixes of whatever length reach. Absent: no lasso at all is accepted. Found: the
-- first that closes and is accepted.
abbrev pub DecidesEmptiness : Fdfa → Lent → Result Outcome Refusal → Type 0
DecidesEmptiness F after (Ok (Absent z)) =
    Counts (Reached F.letters F.step) F.states z.reached
    × ((u v : List ℕ) → Lasso F.letters u v → accepts F u v ≡ true → ⊥)
DecidesEmptiness F after (Ok (Found z)) =
    Counts (Reached F.letters F.step) F.states z.reached
    × model.First (Accepted F) (take z.prefix after.opening) (take z.period after.period)
DecidesEmptiness F after (Err r) = Unit {0}

-- The test of emptiness.
pub record Emptied (b : List ℕ) (before after : Slices) (r : Result Outcome Refusal) : Type 0 where
  pub settles : Settled (empty_start b (length before.work)) (emptiness (decode b)) (empty_cells b) before after r
  pub decides : DecidesEmptiness (decode b) (lasso after) r

-- Of inner functions, where the sheets are good: as `Settled`, with too few cells alone before the search.
abbrev pub Searched : model.Comparison → ℕ → Slices → Slices → Result Outcome Refusal → Type 0
Searched C cells before after r = Settled (cells_fault cells (length before.work)) C cells before after r
