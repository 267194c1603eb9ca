-- `running_sheet::lasting::sum_seconds` meets its contract. Assumes nothing.
use mathlib.Core.Path.{◌≡◌, ap, ◌∙◌}
use Prim.Native.Nat.{ℕ, ◌<◌}
use native.Mathlib.Omega.{arith}
use lib.ListN.{length, get_or}
use Rattle.slices.specs.Tables.{sum}
use Rattle.running_sheet.specs.Places.{seconds_at, lasting}
use Rattle.running_sheet.proofs.Measures.{sum-none, sum-next}
use Rattle.running_sheet.proofs.lasting.sum_seconds.Goals as goal

pub loop-letter-init : goal.loop-letter-init
loop-letter-init c = (omega (arith, sum-none c.args.word.now c.args.seconds.now), omega arith)

pub overflow_add-total : goal.overflow_add-total
overflow_add-total c =
    let known : c.from.result < length c.args.seconds.now = omega (arith, c.from.ensures, c.requires.known c.loop-letter.letter-index (omega arith)) in
    omega (arith, c.requires.times c.from.result known, c.from-lasts.ensures, c.loop-letter.invariant.1, c.requires.few)

pub loop-letter-preserved : goal.loop-letter-preserved
loop-letter-preserved c =
    let i = c.loop-letter.letter-index in
    let same : c.from-lasts.result ≡ seconds_at c.args.word.now c.args.seconds.now i = c.from-lasts.ensures ∙ ap (λ (a : ℕ). get_or c.args.seconds.now a 0) c.from.ensures in
    let known : c.from.result < length c.args.seconds.now = omega (arith, c.from.ensures, c.requires.known i (omega arith)) in
    (omega (arith, c.loop-letter.invariant.0, same, sum-next c.args.word.now c.args.seconds.now i), omega (arith, c.requires.times c.from.result known, c.from-lasts.ensures, c.loop-letter.invariant.1))

pub returns : goal.returns
unfolding lasting
returns c =
    let e : c.loop-letter.letter-index ≡ length c.args.word.now = omega arith in
    (c.loop-letter.invariant.0 ∙ ap (λ (n : ℕ). sum n (seconds_at c.args.word.now c.args.seconds.now)) e, omega (arith, c.loop-letter.invariant.1, c.requires.few))
