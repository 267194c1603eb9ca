-- `lasso_search::searching::can_end` meets its contract. Assumes nothing.
use mathlib.Core.Bool.{Bool}
use mathlib.Core.List.{List}
use Prim.Native.Nat.{ℕ, ◌+◌, ◌≤◌, ◌<◌}
use native.Mathlib.Omega.{arith}
use lib.ListN.{length, replicate}
use Rattle.search.specs.Search.{Ready}
use Rattle.lasso_search.specs.Codes.{Tabulated, Fresh}
use Rattle.lasso_search.proofs.Joined.{aim_at, begin, no-ending}
use Rattle.lasso_search.proofs.Leading.{stands-still, run-still}
use Rattle.lasso_search.proofs.searching.can_end.Goals as goal

-- the search of the progress alone begins
starts : {rows : List ℕ} {count s : ℕ} {f : ℕ → ℕ → ℕ} {e : ℕ → Bool} {status cells : List ℕ} → Tabulated rows count s f → Fresh status 1 0 count e → 0 < count → count + 1 ≤ length cells
    → Ready (replicate 32 0) rows 1 s 0 status cells 1 0 (aim_at 1 0 count e)
starts {e = e} t m some room = begin (stands-still t.few_letters) t (omega arith) (omega arith) some e m (omega arith)

pub explore-requires : goal.explore-requires
explore-requires c = let p = c.requires in record { aim = aim_at 1 0 c.args.count p.1.0; ready = starts p.0.1 p.1.1 p.2 p.3 }

-- where the search is exhausted no period ends
pub returns-in-On : goal.returns-in-On
returns-in-On c = λ z f e t m v o ne d.
    let p = c.requires in
    let R = starts t m p.2 p.3 in
    no-ending (stands-still t.few_letters) t (omega arith) (omega arith) p.2 e R.bounded (c.in-On.ensures (aim_at 1 0 c.args.count e) R) (omega arith) v o ne (run-still v) d
