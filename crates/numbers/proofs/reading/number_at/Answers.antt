-- `numbers::reading::number_at` meets its contract. Assumes nothing.
use Rattle.std.specs.Prelude.{Ok, Err}
use mathlib.Core.Path.{◌≡◌, ap, sym, ◌∙◌}
use mathlib.Core.Bool.{Bool}
use mathlib.Core.List.{List}
use Prim.Native.Nat.{ℕ, ◌+◌}
use native.Mathlib.Omega.{arith}
use lib.ListN.{get_or}
use Rattle.numbers.specs.Numerals.{run_of, value_of, malformed}
use Rattle.numbers.proofs.Runs.{run-bound, run-digits, well-formed, number-none, number-bad, number-good}
use Rattle.numbers.proofs.reading.number_at.Goals as goal

-- the test of the run, in the text's own terms
test : (t : List ℕ) (at : ℕ) {r : ℕ} {b : Bool} → r ≡ run_of t at → b ≡ malformed r (get_or t at 0) → malformed (run_of t at) (get_or t at 0) ≡ b
test t at e d = sym (ap (λ (r : ℕ). malformed r (get_or t at 0)) e) ∙ sym d

pub returns-then-len-at : goal.returns-then-len-at
returns-then-len-at c = ap Err c.refuse.ensures ∙ sym (number-none _ _ _ c.if-len-at.true)

pub overflow_add-next : goal.overflow_add-next
overflow_add-next c =
    omega (arith, run-bound c.args.text.now c.args.at (omega (arith, c.if-len-at.false)), c.run-r.ensures)

pub returns-then-is_malformed : goal.returns-then-is_malformed
returns-then-is_malformed c =
    ap Err c.refuse-then-is_malformed.ensures ∙ sym (number-bad c.args.part c.args.text.now c.args.at c.if-len-at.false (test c.args.text.now c.args.at c.run-r.ensures c.is_malformed.ensures ∙ c.if-is_malformed.true))

pub value-requires : goal.value-requires
value-requires c =
    let t = c.args.text.now in
    let e = c.run-r.ensures in
    let w = well-formed c.run-r.result (get_or t c.args.at 0) (sym c.is_malformed.ensures ∙ c.if-is_malformed.false) in
    record { run_in_bounds = (omega (arith, run-bound t c.args.at (omega (arith, c.if-len-at.false)), e), w.0, w.1); by_index = λ i h. run-digits t c.args.at i (omega (arith, e)) }

pub returns : goal.returns
returns c =
    let t = c.args.text.now in
    let e = c.run-r.ensures in
    (λ i. Ok (record { value = (c.value.ensures ∙ ap (value_of t c.args.at) e) i; next = c.args.at + e i }))
    ∙ sym (number-good c.args.part t c.args.at c.if-len-at.false (test c.args.text.now c.args.at c.run-r.ensures c.is_malformed.ensures ∙ c.if-is_malformed.false))
