-- `lasso_search::searching::next_candidate` meets its contract: the states passed have no accepted period. Assumes nothing.
use mathlib.Core.Path.{◌≡◌, ap, sym, subst, ◌∙◌}
use mathlib.Core.List.{List, ◌++◌}
use Prim.Native.Nat.{ℕ, ◌-◌, ◌≤◌, ◌<◌}
use native.Mathlib.Omega.{arith}
use lib.ListN.{length, take, drop}
use lib.Seq.{length-take-le}
use Rattle.fdfa.specs.Family.{Fdfa}
use Rattle.pairing.specs.Pairs.{Alike}
use Rattle.search.specs.Queue.{state_at}
use Rattle.lasso_search.specs.Reporting.{difference}
use Rattle.lasso_search.specs.Codes.{Room, Round}
use Rattle.lasso_search.proofs.Difference.{complete}
use Rattle.lasso_search.proofs.Rounds.{returned-front, returned-long, round-next}
use Rattle.lasso_search.proofs.searching.next_candidate.Invariants.{Passed}
use Rattle.lasso_search.proofs.searching.next_candidate.Goals as goal

-- the first cells lie within the work
front-in : {b d : List ℕ} {n rows status w w₀ : ℕ} → Alike b d → Room (difference b d) n rows status (w₀ - (n - 1)) → w ≡ w₀ → n - 1 ≤ w
front-in {n = n} A R e = let some : 0 < n = omega (arith, (complete A).start, R.all) in omega (arith, R.cells_fit 0 some)

-- what preparing leaves
module _ {P : Fdfa} {front reached from : ℕ} {rows₀ status₀ work₀ rows status work : List ℕ} {i q : ℕ} (I : Passed P front reached from rows₀ status₀ work₀ rows status work i)
    (fits : front ≤ length work) (e : q ≡ state_at 0 (take front work) i) (cells : List ℕ) (l : length cells ≡ length (take (length work - front) (drop front work))) where
  abbrev work₁ : List ℕ
  work₁ = take front work ++ (cells ++ drop (length work - front) (drop front work))

  work₁-same : length work₁ ≡ length work₀
  work₁-same = returned-long front work fits cells l ∙ I.work_same

  same-front : take front work₁ ≡ take front work
  same-front = returned-front front work fits cells

  round₁ : Round P (take front work₁) reached i
  round₁ = subst (λ (l : List ℕ). Round P l reached i) (sym same-front) I.round

  state₁ : q ≡ state_at 0 (take front work₁) i
  state₁ = e ∙ ap (λ (l : List ℕ). state_at 0 l i) (sym same-front)

pub slice_bounds-state_of-end : goal.slice_bounds-state_of-end
slice_bounds-state_of-end c = front-in c.requires.alike.0 c.requires.room c.loop-i.invariant.work_same

pub slice_bounds-state_of-end-in-loop-i : goal.slice_bounds-state_of-end-in-loop-i
slice_bounds-state_of-end-in-loop-i c = sym (length-take-le _ _ (front-in c.requires.alike.0 c.requires.room c.loop-i.invariant.work_same))

pub state_of-q-requires : goal.state_of-q-requires
state_of-q-requires c =
    omega (arith, length-take-le (c.args.n - 1) c.loop-i.work (front-in c.requires.alike.0 c.requires.room c.loop-i.invariant.work_same), c.loop-i.invariant.round.leads.most)

pub slice_bounds-prepare-count : goal.slice_bounds-prepare-count
slice_bounds-prepare-count c = front-in c.requires.alike.0 c.requires.room c.loop-i.invariant.work_same

pub slice_bounds-prepare-start : goal.slice_bounds-prepare-start
slice_bounds-prepare-start c = front-in c.requires.alike.0 c.requires.room c.loop-i.invariant.work_same

pub returns-in-Some : goal.returns-in-Some
returns-in-Some c =
    let I = c.loop-i.invariant in
    let fits = front-in c.requires.alike.0 c.requires.room I.work_same in
    record {
      kept = same-front I fits c.state_of-q.ensures c.prepare.new.cells c.prepare.auto.cells ∙ I.kept;
      choice = record {
        later = I.later;
        here = omega arith;
        round = round₁ I fits c.state_of-q.ensures c.prepare.new.cells c.prepare.auto.cells;
        state = state₁ I fits c.state_of-q.ensures c.prepare.new.cells c.prepare.auto.cells;
        prepared = c.in-Some.ensures;
      };
    }

pub loop-i-preserved : goal.loop-i-preserved
loop-i-preserved c =
    let I = c.loop-i.invariant in
    let fits = front-in c.requires.alike.0 c.requires.room I.work_same in
    record {
      rows_same = c.prepare.auto.rows ∙ I.rows_same;
      status_same = c.prepare.auto.status ∙ I.status_same;
      work_same = work₁-same I fits c.state_of-q.ensures c.prepare.new.cells c.prepare.auto.cells;
      kept = same-front I fits c.state_of-q.ensures c.prepare.new.cells c.prepare.auto.cells ∙ I.kept;
      later = omega (arith, I.later);
      round = round-next (round₁ I fits c.state_of-q.ensures c.prepare.new.cells c.prepare.auto.cells) (omega arith) (state₁ I fits c.state_of-q.ensures c.prepare.new.cells c.prepare.auto.cells)
          c.in_default.ensures;
    }
