-- The loops of `lasso_search::searching::find`.
use mathlib.Core.Path.{◌≡◌}
use mathlib.Core.List.{List}
use Prim.Native.Nat.{ℕ, ◌-◌}
use lib.ListN.{length, take}
use Rattle.std.specs.Prelude.{Option, None, Some}
use Rattle.fdfa.specs.Family.{Fdfa}
use Rattle.lasso_search.specs.declared.Candidate.{Candidate}
use Rattle.lasso_search.specs.declared.LassoCodes.{LassoCodes}
use Rattle.lasso_search.specs.Reporting.{difference}
use Rattle.lasso_search.specs.Codes.{Choice}
use Rattle.lasso_search.proofs.Candidates.{Turns}
use Rattle.lasso_search.proofs.searching.find.Given as goal

-- the candidates before the next are done with
pub record Candidates (P : Fdfa) (n reached : ℕ) (rows₀ status₀ work₀ rows status work : List ℕ) (lasso : Option LassoCodes) (next : Option Candidate) : Type 0 where
  pub rows_same : length rows ≡ length rows₀
  pub status_same : length status ≡ length status₀
  pub work_same : length work ≡ length work₀
  pub none_yet : lasso ≡ None
  pub choice : Choice P n reached 0 rows status (take (n - 1) work) next

-- how many codes are left from the next candidate on
abbrev pub left : ℕ → Option Candidate → ℕ
left reached None = 0
left reached (Some c) = reached - c.code

abbrev pub invariant-loop-h : goal.invariant-loop-h
invariant-loop-h l = (l.lasso ≡ None) × Turns (difference l.first l.second) l.n l.t.letters l.leads l.rows l.initial.status l.initial.work l.status l.work l.c l.total l.h

abbrev pub decreases-loop-h : goal.decreases-loop-h
decreases-loop-h l = length l.initial.work - l.front - l.h

abbrev pub invariant-search : goal.invariant-search
invariant-search l = Candidates (difference l.first l.second) l.n l.reached l.initial.rows l.initial.status l.initial.work l.rows l.status l.work l.lasso l.next

abbrev pub decreases-search : goal.decreases-search
decreases-search l = left l.reached l.next
