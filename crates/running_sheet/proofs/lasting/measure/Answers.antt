-- `running_sheet::lasting::measure` meets its contract. Assumes nothing.
use mathlib.Core.Path.{◌≡◌, ap, ◌∙◌}
use mathlib.Core.List.{List}
use Prim.Native.Nat.{ℕ, ◌+◌, ◌≤◌, ◌<◌}
use native.Mathlib.Omega.{arith}
use lib.ListN.{length, get_or}
use Rattle.slices.specs.Tables.{rows}
use Rattle.numbers.specs.Digits.{digits_of}
use Rattle.numbers.proofs.Digits.{length_digits}
use Rattle.running_sheet.specs.Places.{seconds_at, line_at, timed_lines}
use Rattle.running_sheet.specs.Steps.{Measurable}
use Rattle.running_sheet.proofs.Measures.{no_lines, lines_next, line-long}
use Rattle.running_sheet.proofs.lasting.measure.Goals as goal

-- both numbers of a line
short : {x w : List ℕ} {letter seconds a b : ℕ} (i : ℕ) → Measurable x w → i < length x → letter ≡ get_or x i 0 → seconds ≡ get_or w letter 0 → letter < 1000
    → a ≡ length (digits_of letter) → b ≡ length (digits_of seconds) → a + b ≤ 6
short {x} {w} {letter} {seconds} i t h d e l p q =
    let known : letter < length w = omega (arith, d, t.known i h) in
    omega (arith, p, q, length_digits letter l, length_digits seconds (omega (arith, e, t.times letter known)))

pub loop-c-init : goal.loop-c-init
loop-c-init c = (omega (arith, no_lines c.args.start.now c.args.word.now c.args.seconds.now), omega arith)

pub overflow_add-long : goal.overflow_add-long
overflow_add-long c = omega (arith, c.small_width.ensures, length_digits c.from-letter.result (omega arith), c.requires.0)

pub overflow_add-long-in-loop-c : goal.overflow_add-long-in-loop-c
overflow_add-long-in-loop-c c =
    omega (arith, short c.loop-c.c-index c.requires.1 (omega arith) c.from-letter.ensures c.from.ensures (omega arith) c.small_width.ensures c.small_width-in-loop-c.ensures, c.requires.0)

pub overflow_add-long-in-loop-c-2 : goal.overflow_add-long-in-loop-c-2
overflow_add-long-in-loop-c-2 c =
    omega (arith, short c.loop-c.c-index c.requires.1 (omega arith) c.from-letter.ensures c.from.ensures (omega arith) c.small_width.ensures c.small_width-in-loop-c.ensures, c.requires.0)

pub overflow_add-long-in-loop-c-3 : goal.overflow_add-long-in-loop-c-3
overflow_add-long-in-loop-c-3 c =
    omega (arith, short c.loop-c.c-index c.requires.1 (omega arith) c.from-letter.ensures c.from.ensures (omega arith) c.small_width.ensures c.small_width-in-loop-c.ensures, c.requires.0, c.loop-c.invariant.1, c.requires.1.few)

pub loop-c-preserved : goal.loop-c-preserved
loop-c-preserved c =
    let i = c.loop-c.c-index in
    let x = c.args.word.now in
    let w = c.args.seconds.now in
    let d = ap (λ (a : ℕ). length (digits_of a)) c.from-letter.ensures in
    let e = ap (λ (a : ℕ). length (digits_of a)) (c.from.ensures ∙ ap (λ (a : ℕ). get_or w a 0) c.from-letter.ensures) in
    let line : length c.args.start.now + c.small_width.result + c.small_width-in-loop-c.result + 2 ≡ length (line_at c.args.start.now x w i) = omega (arith, line-long c.args.start.now (get_or x i 0) (seconds_at x w i), c.small_width.ensures, c.small_width-in-loop-c.ensures, d, e) in (
      omega (arith, c.loop-c.invariant.0, line, lines_next c.args.start.now x w i),
      omega (arith, short c.loop-c.c-index c.requires.1 (omega arith) c.from-letter.ensures c.from.ensures (omega arith) c.small_width.ensures c.small_width-in-loop-c.ensures, c.requires.0, c.loop-c.invariant.1),
    )

pub returns : goal.returns
unfolding timed_lines
returns c =
    let e : c.loop-c.c-index ≡ length c.args.word.now = omega arith in
    (c.loop-c.invariant.0 ∙ ap (λ (n : ℕ). length (rows n (line_at c.args.start.now c.args.word.now c.args.seconds.now))) e, omega (arith, c.loop-c.invariant.1, c.requires.1.few))
