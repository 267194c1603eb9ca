-- A lent slice after a call that fills it from its start. Assumes nothing.
use Rattle.slices.specs.declared.Refusal.{Refusal}
use Rattle.std.specs.Prelude.{◌≡◌, List, ◌++◌, ℕ, length, drop, Result}
use Rattle.slices.specs.Refusals.{Fault, sound, fault, unless}

-- The new cells, then what the slice held behind them.
unfoldable pub written : List ℕ → List ℕ → List ℕ
written new old = new ++ drop (length new) old

-- The same where nothing is refused; a refusal changes no cell.
abbrev pub filled : Fault → List ℕ → List ℕ → List ℕ
filled sound new old = written new old
filled (fault r) new old = old

-- A call that fills the out slice with a result: it says how many cells that takes, or the refusal.
pub record Fills (f : Fault) (new old out : List ℕ) (r : Result ℕ Refusal) : Type 0 where
  pub says : r ≡ unless f (length new)
  pub cells : out ≡ filled f new old
