-- `numbers::reading::value` meets its contract. Assumes nothing.
use mathlib.Core.Path.{◌≡◌, ap, sym, ◌∙◌}
use native.Mathlib.Omega.{arith}
use Rattle.numbers.specs.Numerals.{value_of}
use Rattle.numbers.proofs.Runs.{first-digit, value-one, value-two, value-three}
use Rattle.numbers.proofs.reading.value.Goals as goal

pub digit_at-a-requires : goal.digit_at-a-requires
digit_at-a-requires c = first-digit c.args.text.now c.args.at c.args.run c.requires.run_in_bounds.0 c.requires.run_in_bounds.1 c.requires.by_index

pub returns-then-run-eq1 : goal.returns-then-run-eq1
returns-then-run-eq1 c =
    value-one c.args.text.now c.args.at _ c.digit_at-a.ensures.0 ∙ ap (value_of c.args.text.now c.args.at) (sym c.if-run-eq1.true)

pub digit_at-b-requires : goal.digit_at-b-requires
digit_at-b-requires c = let d = c.requires.by_index 1 (omega arith) in (omega arith, d.0, d.1)

pub returns-then-run-eq2 : goal.returns-then-run-eq2
returns-then-run-eq2 c =
    value-two c.args.text.now c.args.at _ c.digit_at-a.ensures.0 _ c.digit_at-b.ensures.0 ∙ ap (value_of c.args.text.now c.args.at) (sym c.if-run-eq2.true)

pub digit_at-requires : goal.digit_at-requires
digit_at-requires c = let d = c.requires.by_index 2 (omega arith) in (omega arith, d.0, d.1)

pub returns : goal.returns
returns c =
    let e : 3 ≡ c.args.run = omega arith in
    value-three c.args.text.now c.args.at _ c.digit_at-a.ensures.0 _ _ c.digit_at-b.ensures.0 c.digit_at.ensures.0 ∙ ap (value_of c.args.text.now c.args.at) e
