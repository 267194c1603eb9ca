-- `lasso_search::searching::start` meets its contract. Assumes nothing.
use mathlib.Core.Path.{◌≡◌, ap, sym, subst, subst₂, ◌∙◌}
use mathlib.Core.List.{List, ◌++◌}
use Prim.Native.Nat.{ℕ, ◌*◌, ◌-◌, ◌≤◌, ◌<◌}
use native.Mathlib.Omega.{arith}
use native.Mathlib.Nat.{mul-le-mul_right, one-mul}
use lib.ListN.{length, take, drop}
use lib.Seq.{length-take-le, take-append-le}
use Rattle.slices.specs.Filling.{written}
use Rattle.slices.specs.Tables.{table}
use Rattle.pairing.specs.declared.Beside.{Beside}
use Rattle.pairing.specs.Pairs.{next_pair_of, Steps}
use Rattle.pairing.proofs.Within.{lead-steps}
use Rattle.lasso_search.specs.Reporting.{difference}
use Rattle.lasso_search.specs.Codes.{Tabulated, Leads, CanFind}
use Rattle.lasso_search.proofs.Difference.{complete, lead-step, tabulated}
use Rattle.lasso_search.proofs.searching.start.Goals as goal

-- what the call is given
module _ {b d : List ℕ} {t : Beside} {n leads rows status work : ℕ} (can : CanFind b d t n leads rows status work) where
  letters : t.letters ≡ (difference b d).letters
  letters = ap (λ (t : Beside). t.letters) can.tables

  some : 0 < n
  some = omega (arith, (complete can.alike).start, can.room.all)

  steps : Steps b d t n
  steps = subst₂ (λ (t : Beside) (m : ℕ). Steps b d t m) (sym can.tables) (sym can.room.all) (lead-steps can.alike)

  work-room : n < work
  work-room =
      let k : 1 ≤ (difference b d).size 0 = (complete can.alike).starts 0 (omega (arith, some, can.room.all)) in
      omega (arith, can.room.cells_fit 0 some, mul-le-mul_right n k, one-mul n, some)

  -- the table of the leading states
  leads-table : (old : List ℕ) {out : List ℕ} → n * t.letters ≤ length old → out ≡ written (table n t.letters (next_pair_of b d t)) old → Tabulated out n t.letters (difference b d).step
  leads-table old {out} fit e =
      subst (Tabulated out n t.letters) (ap (next_pair_of b d) can.tables ∙ lead-step can.alike) (tabulated old steps fit e)

pub tabulate-requires : goal.tabulate-requires
tabulate-requires c = let k = c.requires.1 in (steps k, k.leads_fit)

pub slice_bounds-reach-end-3 : goal.slice_bounds-reach-end-3
slice_bounds-reach-end-3 c = omega (arith, work-room c.requires.1)

pub slice_bounds-reach-end-4 : goal.slice_bounds-reach-end-4
slice_bounds-reach-end-4 c = sym (length-take-le _ _ (omega (arith, work-room c.requires.1)))

pub reach-requires : goal.reach-requires
reach-requires c =
    let k = c.requires.1 in
    (((difference c.args.first.now c.args.second.now).step, leads-table k c.args.leads.now k.leads_fit c.tabulate.ensures), some k, length-take-le _ _ k.room.leads, length-take-le _ _ (omega (arith, work-room k)))

pub returns : goal.returns
returns c =
    let k = c.requires.1 in
    let P = difference c.args.first.now c.args.second.now in
    let n : ℕ = c.args.n in
    let T : Tabulated c.tabulate.new.out n c.args.t.letters P.step = leads-table k c.args.leads.now k.leads_fit c.tabulate.ensures in
    let ys : List ℕ = c.reach.new.cells in
    let work : List ℕ = ys ++ drop n c.args.work.now in
    let l : length ys ≡ n = c.reach.auto.cells ∙ length-take-le n c.args.work.now (omega (arith, work-room k)) in
    let f : take (n - 1) work ≡ take (n - 1) ys = take-append-le (n - 1) ys _ (omega arith) in
    record {
      table = T;
      round = record {
        leads = subst₂ (λ (m a : ℕ). Leads P.step a m (take (n - 1) work) c.reach.result) k.room.all (letters k)
            (subst (λ (x : List ℕ). Leads P.step c.args.t.letters n x c.reach.result) (sym f) (c.reach.ensures P.step T));
        upto = omega arith;
        none = λ j h. absurd (omega arith);
      };
    }
