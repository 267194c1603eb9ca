-- The loops of `search::explore`.
use mathlib.Core.Path.{◌≡◌}
use mathlib.Core.List.{List}
use Prim.Native.Nat.{ℕ, ◌-◌}
use lib.ListN.{length}
use Rattle.search.specs.Search.{Search, Aim, joint, Ready}
use Rattle.search.proofs.explore.Given as goal

-- what the codes below `head` have done, for each aim that the search began with
pub record Codes (leads rows : List ℕ) (n s root : ℕ) (status₀ cells₀ status cells : List ℕ) (total head : ℕ) : Type 0 where
  pub status_same : length status ≡ length status₀
  pub cells_same : length cells ≡ length cells₀
  pub all : (aim : Aim) → Ready leads rows n s root status₀ cells₀ 1 0 aim → Search (joint leads rows n s root aim) status cells total head 0

abbrev pub invariant-loop-head : goal.invariant-loop-head
invariant-loop-head l = Codes l.leads l.rows l.width l.letters l.root l.initial.status l.initial.cells l.status l.cells l.total l.head

abbrev pub decreases-loop-head : goal.decreases-loop-head
decreases-loop-head l = length l.initial.cells - l.head
