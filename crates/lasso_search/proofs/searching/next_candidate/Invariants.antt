-- The loop of `lasso_search::searching::next_candidate`.
use mathlib.Core.Path.{◌≡◌}
use mathlib.Core.List.{List}
use Prim.Native.Nat.{ℕ, ◌≤◌}
use lib.ListN.{length, take}
use Rattle.fdfa.specs.Family.{Fdfa}
use Rattle.lasso_search.specs.Reporting.{difference}
use Rattle.lasso_search.specs.Codes.{Round}
use Rattle.lasso_search.proofs.searching.next_candidate.Given as goal

-- none of the codes below i is a candidate, and the first cells are as they were
pub record Passed (P : Fdfa) (front reached from : ℕ) (rows₀ status₀ work₀ rows status work : List ℕ) (i : ℕ) : Type 0 where
  pub rows_same : length rows ≡ length rows₀
  pub status_same : length status ≡ length status₀
  pub work_same : length work ≡ length work₀
  pub kept : take front work ≡ take front work₀
  pub later : from ≤ i
  pub round : Round P (take front work) reached i

abbrev pub invariant-loop-i : goal.invariant-loop-i
invariant-loop-i l = Passed (difference l.first l.second) l.front l.reached l.from l.initial.rows l.initial.status l.initial.work l.rows l.status l.work l.i
