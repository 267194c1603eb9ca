-- `lasso_text::reading::read` meets its contract. Assumes nothing.
use Rattle.slices.proofs.Refusals.{handed}
use mathlib.Core.Path.{ap, sym, ◌∙◌}
use Prim.Native.Nat.{◌≤◌, ◌<◌}
use native.Mathlib.Omega.{arith}
use lib.ListN.{length}
use Rattle.slices.proofs.Filling.{none-back}
use Rattle.slices.specs.Refusals.{fault}
use Rattle.lasso_text.specs.Reading.{words_of}
use Rattle.lasso_text.proofs.Rooms.{unmeasured, was-measured, text-refused, short-opening, short-period, enough, lasso-refused, lasso-filled}
use Rattle.lasso_text.proofs.reading.read.Goals as goal

pub returns-then-opening-need : goal.returns-then-opening-need
returns-then-opening-need c =
    let w = (was-measured (words_of 32 c.args.part c.args.text.now) (sym c.read_words.ensures.says ∙ c.in_ok-need.was)) in
    let o = length c.args.opening.now in
    let p = length c.args.period.now in
    let less : o < c.in_ok-need.need.prefix = omega (arith, c.if-opening-need.true, ap length (none-back c.read_words.new.opening c.args.opening.now c.read_words.ensures.same_opening)) in
    lasso-refused (short-opening w.0 w.1 w.2 w.3 o p less ∙ ap fault (sym c.refuse.ensures)) (none-back c.read_words.new.opening c.args.opening.now c.read_words.ensures.same_opening) (none-back c.read_words.new.period c.args.period.now c.read_words.ensures.same_period)

pub returns-then-short : goal.returns-then-short
returns-then-short c =
    let w = (was-measured (words_of 32 c.args.part c.args.text.now) (sym c.read_words.ensures.says ∙ c.in_ok-need.was)) in
    let o = length c.args.opening.now in
    let p = length c.args.period.now in
    let more : c.in_ok-need.need.prefix ≤ o = omega (arith, c.if-opening-need.false, ap length (none-back c.read_words.new.opening c.args.opening.now c.read_words.ensures.same_opening)) in
    let less : p < c.in_ok-need.need.period = omega (arith, c.if-short.true, ap length (none-back c.read_words.new.period c.args.period.now c.read_words.ensures.same_period)) in
    lasso-refused (short-period w.0 w.1 w.2 w.3 o p more less ∙ ap fault (sym c.refuse-then-short.ensures)) (none-back c.read_words.new.opening c.args.opening.now c.read_words.ensures.same_opening) (none-back c.read_words.new.period c.args.period.now c.read_words.ensures.same_period)

pub returns-in_err-need : goal.returns-in_err-need
returns-in_err-need c = rw (handed c.from_residual.ensures)
    (lasso-refused (text-refused _ _ (unmeasured (words_of 32 c.args.part c.args.text.now) (sym c.read_words.ensures.says ∙ c.in_err-need.was))) (none-back c.read_words.new.opening c.args.opening.now c.read_words.ensures.same_opening) (none-back c.read_words.new.period c.args.period.now c.read_words.ensures.same_period))

pub returns : goal.returns
returns c =
    let w = (was-measured (words_of 32 c.args.part c.args.text.now) (sym c.read_words.ensures.says ∙ c.in_ok-need.was)) in
    let o = length c.args.opening.now in
    let p = length c.args.period.now in
    let m : c.in_ok-need.need.prefix ≤ o = omega (arith, c.if-opening-need.false, ap length (none-back c.read_words.new.opening c.args.opening.now c.read_words.ensures.same_opening)) in
    let n : c.in_ok-need.need.period ≤ p = omega (arith, c.if-short.false, ap length (none-back c.read_words.new.period c.args.period.now c.read_words.ensures.same_period)) in
    lasso-filled w.0 w.1 (omega (arith, w.2)) (omega (arith, w.3)) (enough w.0 w.1 w.2 w.3 o p m n) (none-back c.read_words.new.opening c.args.opening.now c.read_words.ensures.same_opening) (none-back c.read_words.new.period c.args.period.now c.read_words.ensures.same_period) c.read_words-2.ensures
