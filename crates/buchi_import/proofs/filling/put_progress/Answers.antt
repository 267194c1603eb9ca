-- `buchi_import::filling::put_progress` meets its contract. Assumes nothing.
use mathlib.Core.Path.{◌≡◌, ap}
use mathlib.Core.List.{List, [], ◌∷◌}
use Prim.Native.Nat.{ℕ}
use native.Mathlib.Omega.{arith}
use lib.Arith.{digits_lt}
use Rattle.slices.specs.Tables.{tab}
use Rattle.slices.proofs.Tables.{length-tab, length-table}
use Rattle.fdfa.specs.Buchi.{from_buchi}
use Rattle.numbers.proofs.Stores.{stored-none-tab, stored-none-rows, stored-entry, stored_row, stored-as}
use Rattle.buchi_import.specs.Steps.{automaton_in}
use Rattle.buchi_import.proofs.Sheets.{few_pairs}
use Rattle.buchi_import.proofs.filling.put_progress.Goals as goal

-- where q goes
abbrev next : ℕ → ℕ → List ℕ → List ℕ → ℕ → ℕ → ℕ → ℕ
next s n ts fs q = (from_buchi (automaton_in s n ts fs)).progress q

pub loop-p-init : goal.loop-p-init
loop-p-init c = stored-none-rows _ _ _

pub loop-a-init : goal.loop-a-init
loop-a-init c = stored-none-tab _ _ _

pub put-w-requires : goal.put-w-requires
put-w-requires c =
    let s = c.args.s in
    let p = c.loop-p.p in
    let f = next s c.args.n c.args.targets.now c.args.finals.now c.args.q in
    omega (arith, length-table p s f, length-tab c.loop-a.a (f p), digits_lt c.loop-p-test.true c.loop-a-test.true, few_pairs c.requires.0.few_states c.requires.0.few_letters)

pub loop-a-preserved : goal.loop-a-preserved
loop-a-preserved c =
    let f = next c.args.s c.args.n c.args.targets.now c.args.finals.now c.args.q in
    stored-entry c.loop-a.a (f c.loop-p.p) c.loop-a.invariant (stored-as (λ k. c.next_pair.ensures.0 k ∷ []) c.put-w.ensures)

pub loop-p-preserved : goal.loop-p-preserved
loop-p-preserved c =
    let f = next c.args.s c.args.n c.args.targets.now c.args.finals.now c.args.q in
    let e : c.loop-a.a ≡ c.args.s = omega arith in
    stored_row c.loop-p.p (λ p. tab c.args.s (f p)) c.loop-p.invariant (stored-as (ap (λ (k : ℕ). tab k (f c.loop-p.p)) e) c.loop-a.invariant)
