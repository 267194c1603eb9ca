-- `lasso_text::writing::measure` meets its contract. Assumes nothing.
use mathlib.Core.Path.{◌≡◌, ap, sym, ◌∙◌}
use Prim.Native.Nat.{ℕ, ◌+◌}
use native.Mathlib.Omega.{arith}
use lib.ListN.{length}
use Rattle.slices.specs.Capped.{capped}
use Rattle.slices.specs.Tables.{rows}
use Rattle.slices.proofs.Capped.{capped_is, capped-sum}
use Rattle.numbers.specs.Digits.{digits_of}
use Rattle.lasso_text.specs.Text.{letter_line, letter_lines}
use Rattle.lasso_text.proofs.Measures.{no_lines, lines_next, line-long}
use Rattle.lasso_text.proofs.writing.measure.Goals as goal

pub loop-letter-init : goal.loop-letter-init
loop-letter-init c =
    let n = no_lines c.args.name.now c.args.word.now in
    let e : c.args.from ≡ c.args.from + length (rows 0 (letter_line c.args.name.now c.args.word.now)) = omega (arith, n) in
    sym (capped_is c.args.from (omega arith)) ∙ ap capped e

pub loop-letter-preserved : goal.loop-letter-preserved
loop-letter-preserved c =
    let name = c.args.name.now in
    let word = c.args.word.now in
    let i = c.loop-letter.letter-index in
    let d = ap (λ (x : ℕ). length (digits_of x)) c.from.ensures in
    let k : length name + c.width.result + 1 ≡ length (letter_line name word i) = omega (arith, line-long name word i, c.width.ensures.0, d) in
    let e : c.args.from + length (rows i (letter_line name word)) + (length name + c.width.result + 1) ≡ c.args.from + length (rows (i + 1) (letter_line name word)) = omega (arith, lines_next name word i, k) in
    c.sum-p.ensures
    ∙ (ap (λ (x : ℕ). capped (x + (length name + c.width.result + 1))) c.loop-letter.invariant
    ∙ (capped-sum (c.args.from + length (rows i (letter_line name word))) (length name + c.width.result + 1) ∙ ap capped e))

pub returns : goal.returns
unfolding letter_lines
returns c =
    let e : c.loop-letter.letter-index ≡ length c.args.word.now = omega arith in
    c.loop-letter.invariant ∙ ap (λ (n : ℕ). capped (c.args.from + length (rows n (letter_line c.args.name.now c.args.word.now)))) e
