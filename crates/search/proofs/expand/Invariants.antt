-- The loops of `search::expand`.
use mathlib.Core.List.{List}
use Prim.Native.Nat.{ℕ, ◌%◌}
use Rattle.search.specs.Search.{Aim, joint, Ready}
use Rattle.search.proofs.Outcomes.{Expanding}
use Rattle.search.proofs.expand.Given as goal

-- what the letters below a have done, for each aim that the search began with
pub record Letters (leads rows : List ℕ) (n s root head total : ℕ) (status₀ cells₀ : List ℕ) (x : ℕ) (status cells : List ℕ) (codes a : ℕ) : Type 0 where
  pub all : (aim : Aim) → Ready leads rows n s root status₀ cells₀ total head aim → Expanding (joint leads rows n s root aim) status cells codes head a x

abbrev pub invariant-loop-a : goal.invariant-loop-a
invariant-loop-a l = Letters l.leads l.rows l.width l.letters l.root l.head l.total l.initial.status l.initial.cells (l.place % 1048576) l.status l.cells l.codes l.a
