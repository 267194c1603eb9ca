-- `lasso_search::searching::find` meets its contract: candidate after candidate, and for each code after code. Assumes nothing.
use mathlib.Core.Path.{ap, sym, subst, ◌∙◌}
use Prim.Native.Nat.{ℕ, ◌-◌, ◌≤◌}
use native.Mathlib.Omega.{arith}
use lib.ListN.{length, take}
use Rattle.pairing.specs.declared.Beside.{Beside}
use Rattle.lasso_search.specs.Reporting.{difference}
use Rattle.lasso_search.specs.Codes.{Round, Choice, FirstLasso}
use Rattle.lasso_search.proofs.Difference.{complete}
use Rattle.lasso_search.proofs.Lassos.{none-accepted}
use Rattle.lasso_search.proofs.Rounds.{round-none}
use Rattle.lasso_search.proofs.Candidates.{room_as, Standing, aim, turns-none, codes-in, turns-done, turns-on, turns-end}
use Rattle.lasso_search.proofs.searching.find.Goals as goal
use Rattle.lasso_search.proofs.searching.find.Goals.{In-Some}

-- what stands at a candidate
standing : (c : In-Some) → Standing (difference c.args.first.now c.args.second.now) c.args.n c.args.t.letters c.start-reached.result c.start-reached.new.leads c.search.rows c.search.status c.search.work c.in-Some.c
standing c = record {
  complete = complete c.requires.alike;
  letters = ap (λ (t : Beside). t.letters) c.requires.tables;
  table = c.start-reached.ensures.table;
  room = room_as c.requires.room (c.search.auto.rows ∙ c.next_candidate-next.auto.rows) (c.search.auto.status ∙ (c.next_candidate-next.auto.status ∙ c.start-reached.auto.status))
      (ap (λ (l : ℕ). l - (c.args.n - 1)) (c.search.auto.work ∙ (c.next_candidate-next.auto.work ∙ c.start-reached.auto.work)));
  chosen = subst (Choice (difference c.args.first.now c.args.second.now) c.args.n c.start-reached.result 0 c.search.rows c.search.status (take (c.args.n - 1) c.search.work)) c.in-Some.is c.search.invariant.choice;
}

pub loop-h-init : goal.loop-h-init
loop-h-init c = (c.search.invariant.none_yet, turns-none (standing (goal.at.loop-h-init c).In-Some))

pub overflow_add-h : goal.overflow_add-h
overflow_add-h c =
    let k : c.loop-h.total ≤ length c.search.work - (c.args.n - 1) = codes-in (standing (goal.at.overflow_add-h c).In-Some) c.loop-h.invariant.1 in omega arith

pub loop-h-smaller : goal.loop-h-smaller
loop-h-smaller c = omega (arith, codes-in (standing (goal.at.loop-h-smaller c).In-Some) c.loop-h.invariant.1)

pub loop-h-preserved : goal.loop-h-preserved
loop-h-preserved c =
    let F = standing (goal.at.loop-h-preserved c).In-Some in
    let T = c.loop-h.invariant.1 in
    (c.loop-h.invariant.0, turns-on F T c.expand.new.status c.expand.new.cells c.expand.auto.status c.expand.auto.cells (c.in-On.ensures (aim F c.args.n) T.ready))

-- a candidate whose search is exhausted
pub next_candidate-next-requires-in-Some-clause-round : goal.next_candidate-next-requires-in-Some-clause-round
next_candidate-next-requires-in-Some-clause-round c =
    turns-done (standing (goal.at.next_candidate-next-requires-in-Some-clause-round c).In-Some) c.loop-h.invariant.1 c.loop-h-test.false

-- the first ending
pub returns-in-Ending : goal.returns-in-Ending
returns-in-Ending c =
    let F = standing (goal.at.returns-in-Ending c).In-Some in
    let T = c.loop-h.invariant.1 in
    turns-end F T c.expand.new.status c.expand.new.cells c.expand.auto.status c.expand.auto.cells (c.in-Ending.ensures (aim F c.args.n) T.ready)

pub returns-in_default : goal.returns-in_default
returns-in_default c =
    let P = difference c.args.first.now c.args.second.now in
    let O : Round P (take (c.args.n - 1) c.search.work) c.start-reached.result c.start-reached.result
    = subst (Choice P c.args.n c.start-reached.result 0 c.search.rows c.search.status (take (c.args.n - 1) c.search.work)) c.in_default.is c.search.invariant.choice in
    (O.leads.counted, subst (FirstLasso P c.search.work) (sym c.search.invariant.none_yet) (none-accepted P (complete c.requires.alike) (round-none O (omega arith))))
