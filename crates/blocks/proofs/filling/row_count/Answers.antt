-- `blocks::filling::row_count` meets its contract. Assumes nothing.
use mathlib.Core.Path.{◌≡◌, ap, sym, ◌∙◌}
use Prim.Native.Nat.{ℕ, ◌≤◌}
use native.Mathlib.Omega.{arith}
use Rattle.slices.specs.Tables.{sum}
use Rattle.blocks.specs.Text.{states_in, size_in}
use Rattle.blocks.proofs.Measures.{sum-next, sum-none, sum-few, size-read}
use Rattle.blocks.proofs.filling.row_count.Goals as goal

pub loop-q-init : goal.loop-q-init
loop-q-init c = sym (sum-none (size_in c.args.front.now))

pub overflow_add-count : goal.overflow_add-count
overflow_add-count c =
    let sized : c.from-count.result ≡ size_in c.args.front.now c.loop-q.q =
    c.from-count.ensures ∙ size-read c.args.front.now c.args.s c.loop-q.q c.requires.s_value.0 in
    let rows_few : (q : ℕ) → q ≤ c.args.n → sum q (size_in c.args.front.now) ≤ 1024 =
    λ q h. sum-few q (size_in c.args.front.now) (omega (arith, c.requires.s_value.3)) (λ r l. c.requires.by_index r (omega arith)) in
    omega (arith, sized, c.loop-q.invariant, rows_few c.loop-q.q (omega arith), c.requires.by_index c.loop-q.q c.loop-q-test.true)

pub loop-q-preserved : goal.loop-q-preserved
loop-q-preserved c =
    let sized : c.from-count.result ≡ size_in c.args.front.now c.loop-q.q =
    c.from-count.ensures ∙ size-read c.args.front.now c.args.s c.loop-q.q c.requires.s_value.0 in
    omega (arith, sized, sum-next (size_in c.args.front.now) c.loop-q.q, c.loop-q.invariant)

pub returns : goal.returns
returns c =
    let rows_few : (q : ℕ) → q ≤ c.args.n → sum q (size_in c.args.front.now) ≤ 1024 =
    λ q h. sum-few q (size_in c.args.front.now) (omega (arith, c.requires.s_value.3)) (λ r l. c.requires.by_index r (omega arith)) in
    let e : c.loop-q.q ≡ states_in c.args.front.now = omega (arith, c.requires.s_value.1) in
    (c.loop-q.invariant ∙ ap (λ (k : ℕ). sum k (size_in c.args.front.now)) e, omega (arith, c.loop-q.invariant, rows_few c.loop-q.q (omega arith)))
