-- `lasso_search::searching::reach` meets its contract. Assumes nothing.
use mathlib.Core.Path.{◌≡◌, ap, sym, subst, ◌∙◌}
use mathlib.Core.List.{List}
use Prim.Native.Nat.{ℕ, ◌<◌}
use native.Mathlib.Omega.{arith}
use lib.ListN.{length, set, replicate}
use Rattle.search.specs.Search.{Ready}
use Rattle.lasso_search.specs.Codes.{Tabulated}
use Rattle.lasso_search.proofs.Leading.{everywhere, begin-leads, leads-of, none-ends}
use Rattle.lasso_search.proofs.searching.reach.Goals as goal

-- the status as the search begins
begins : {status leads cells : List ℕ} {n m s : ℕ} {f : ℕ → ℕ → ℕ} → status ≡ replicate m 1 → m ≡ n → length cells ≡ n → 0 < n → Tabulated leads n s f
    → Ready leads (replicate 32 0) n s 0 (set status 0 0) cells 1 0 everywhere
begins {leads = leads} {cells = cells} {n = n} {s = s} e d r some t =
    subst (λ (l : List ℕ). Ready leads (replicate 32 0) n s 0 (set l 0 0) cells 1 0 everywhere) (sym (e ∙ ap (λ (k : ℕ). replicate k 1) d)) (begin-leads t some (omega arith))

pub explore-requires : goal.explore-requires
explore-requires c = let p = c.requires in record { aim = everywhere; ready = begins c.refresh.ensures p.2 p.3 p.1 p.0.1 }

pub returns-in-On : goal.returns-in-On
returns-in-On c = λ f t. let p = c.requires in leads-of t p.1 (c.in-On.ensures everywhere (begins c.refresh.ensures p.2 p.3 p.1 t))

pub returns-in-Ending : goal.returns-in-Ending
returns-in-Ending c = λ f t. let p = c.requires in absurd (none-ends t p.1 (c.in-Ending.ensures everywhere (begins c.refresh.ensures p.2 p.3 p.1 t)))
