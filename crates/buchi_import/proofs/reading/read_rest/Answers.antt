-- `buchi_import::reading::read_rest` meets its contract. Assumes nothing.
use Rattle.slices.proofs.Refusals.{handed}
use Rattle.std.specs.Prelude.{Err}
use mathlib.Core.Path.{refl, ap, sym, ◌∙◌}
use Prim.Native.Nat.{◌%◌}
use native.Mathlib.Omega.{arith}
use Rattle.buchi_import.proofs.Onward.{moved_none, moved-part, rest-refused, rest-lost, rest_read}
use Rattle.buchi_import.proofs.reading.read_rest.Goals as goal

pub returns-then-m-eq0 : goal.returns-then-m-eq0
returns-then-m-eq0 c =
    rest-refused c.args.limit c.args.text.now c.args.at c.args.m c.args.c (omega arith) (ap Err c.refuse.ensures) (λ ms h k. moved_none c.args.limit c.args.text.now ms c.args.at (h ∙ c.if-m-eq0.true))

pub nonzero_rem-m : goal.nonzero_rem-m
nonzero_rem-m c = omega (arith, c.if-m-eq0.false, c.requires.1)

pub returns-then-m-c-ne0 : goal.returns-then-m-c-ne0
returns-then-m-c-ne0 c =
    rest-refused c.args.limit c.args.text.now c.args.at c.args.m c.args.c (omega arith) (ap Err c.refuse-then-m-c-ne0.ensures)
    (λ ms h k. moved-part c.args.limit c.args.text.now ms c.args.at (λ e. c.if-m-eq0.false (sym h ∙ e)) (λ e. c.if-m-c-ne0.true (sym (λ i. h i % k i) ∙ e)))

-- there are some transitions, as many for each state
pub ended-requires : goal.ended-requires
ended-requires c = omega (arith, c.if-m-eq0.false, c.requires.1)

pub returns-in_err-states : goal.returns-in_err-states
returns-in_err-states c = rw (handed c.from_residual.ensures)
    (rest-lost c.args.limit c.args.text.now c.args.at c.args.m c.args.c c.read_accepting.ensures c.if-m-eq0.false (omega (arith, c.if-m-c-ne0.false)) c.in_err-states.was refl)

pub returns : goal.returns
returns c =
    rest_read c.args.limit c.args.text.now c.args.at c.args.m c.args.c c.read_accepting.ensures c.if-m-eq0.false (omega (arith, c.if-m-c-ne0.false)) c.in_ok-states.was c.ended.ensures
