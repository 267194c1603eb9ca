-- `lasso_text::writing::put_letters` meets its contract. Assumes nothing.
use mathlib.Core.Path.{◌≡◌, ap}
use Prim.Native.Nat.{ℕ}
use native.Mathlib.Omega.{arith}
use lib.ListN.{length}
use Rattle.slices.specs.Tables.{rows}
use Rattle.numbers.proofs.Stores.{stored-none-rows, stored_row, stored-as}
use Rattle.lasso_text.specs.Text.{letter_line, letter_lines}
use Rattle.lasso_text.proofs.Measures.{line-within}
use Rattle.lasso_text.proofs.writing.put_letters.Goals as goal

pub loop-letter-init : goal.loop-letter-init
loop-letter-init c = stored-none-rows _ _ _

pub put_letter-p-requires : goal.put_letter-p-requires
put_letter-p-requires c =
    let i = c.loop-letter in
    omega (arith, i.invariant.next, c.requires, line-within c.args.name.now c.args.word.now i.letter-index (omega arith))

pub loop-letter-preserved : goal.loop-letter-preserved
loop-letter-preserved c =
    let i = c.loop-letter in
    stored_row i.letter-index (letter_line c.args.name.now c.args.word.now) i.invariant c.put_letter-p.ensures

pub returns : goal.returns
unfolding letter_lines
returns c =
    let e : c.loop-letter.letter-index ≡ length c.args.word.now = omega arith in
    stored-as (ap (λ (n : ℕ). rows n (letter_line c.args.name.now c.args.word.now)) e) c.loop-letter.invariant
