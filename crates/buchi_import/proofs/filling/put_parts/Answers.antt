-- `buchi_import::filling::put_parts` meets its contract. Assumes nothing.
use mathlib.Core.List.{List}
use Prim.Native.Nat.{ℕ, ◌*◌, ◌≤◌, ◌<◌}
use native.Mathlib.Omega.{arith}
use Rattle.slices.specs.Tables.{tab, rows, table}
use Rattle.slices.proofs.Tables.{length-table}
use Rattle.fdfa.specs.Buchi.{pair_flag, from_buchi}
use Rattle.packed.specs.Layout.{mark, part_bytes}
use Rattle.numbers.specs.Storing.{Stored}
use Rattle.numbers.proofs.Stores.{stored-none-rows, stored_row, stored-then}
use Rattle.buchi_import.specs.Steps.{automaton_in, Stocked}
use Rattle.buchi_import.proofs.Sheets.{few_pairs, few-parts, parts-long}
use Rattle.buchi_import.proofs.filling.put_parts.Goals as goal

-- where the part of q begins
low : (s n : ℕ) (ts fs old out : List ℕ) (at q w : ℕ) → Stocked s n ts fs → at ≤ 1000 → q < n → Stored old at (rows q (part_bytes (from_buchi (automaton_in s n ts fs)))) out w → w ≤ 17896
low s n ts fs old out at q w h l k d =
    omega (arith, d.next, parts-long (automaton_in s n ts fs) q, few-parts {q = q} (omega (arith, h.few_states)) h.few_states h.few_letters)

pub loop-q-init : goal.loop-q-init
loop-q-init c = stored-none-rows _ _ _

pub put_progress-e-requires : goal.put_progress-e-requires
put_progress-e-requires c = (c.requires.0, c.loop-q-test.true, omega (arith, low _ _ _ _ _ _ _ _ _ c.requires.0 c.requires.1 c.loop-q-test.true c.loop-q.invariant))

pub put_flags-w-requires : goal.put_flags-w-requires
put_flags-w-requires c =
    let h = c.requires.0 in
    (h.few_states, omega (arith, c.put_progress-e.ensures.next, length-table (2 * c.args.n) c.args.s ((from_buchi (automaton_in c.args.s c.args.n c.args.targets.now c.args.finals.now)).progress c.loop-q.q), low _ _ _ _ _ _ _ _ _ h c.requires.1 c.loop-q-test.true c.loop-q.invariant, few_pairs h.few_states h.few_letters))

pub loop-q-preserved : goal.loop-q-preserved
loop-q-preserved c =
    let n = c.args.n in
    let f = from_buchi (automaton_in c.args.s n c.args.targets.now c.args.finals.now) in
    stored_row c.loop-q.q (part_bytes f) c.loop-q.invariant (stored-then (table (2 * n) c.args.s (f.progress c.loop-q.q)) (tab (2 * n) (λ r. mark (pair_flag r))) c.put_progress-e.ensures c.put_flags-w.ensures)
