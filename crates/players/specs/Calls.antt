-- What the players' calls say and write, for any bytes. Assumes nothing.
use Rattle.std.specs.Prelude.{List, [], ◌∷◌, ℕ, replicate}
use Rattle.fdfa.specs.Acceptance.{Verdict}
use Rattle.packed.specs.Layout.{mark}
use Rattle.c_search.specs.Searches.{SearchSlices, ComparedTold}

-- Accepted 1 or rejected 0, i, j, the leading state, the progress state.
abbrev pub verdict_numbers_of : Verdict → List ℕ
verdict_numbers_of v = mark v.accepted ∷ v.i ∷ v.j ∷ v.state ∷ v.end ∷ []

-- The slices that the comparison is lent to be written, beside the two sheets.
pub record AnswerSlices : Type 0 where
  pub prefix : List ℕ
  pub period : List ℕ
  pub answer : List ℕ

abbrev pub with_cells : List ℕ → AnswerSlices → SearchSlices
with_cells work l = record { prefix = l.prefix; period = l.period; work = work; answer = l.answer }

-- The comparison in lent cells, with 8,192 of its own; whatever they hold in the end goes with the call.
pub record ComparisonTold (b c : List ℕ) (before after : AnswerSlices) (r : ℕ) : Type 0 where
  pub cells : List ℕ
  pub compared : ComparedTold b c (with_cells (replicate 8192 0) before) (with_cells cells after) r
