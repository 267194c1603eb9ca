-- `buchi_import::reading::ended` meets its contract. Assumes nothing.
use Rattle.std.specs.Prelude.{Ok, Err}
use mathlib.Core.Path.{ap, sym, ◌∙◌}
use Prim.Native.Nat.{◌/◌}
use native.Mathlib.Omega.{arith}
use Rattle.buchi_import.specs.Steps.{sizes_of}
use Rattle.buchi_import.proofs.Onward.{ended-other, ended-none, ended-all}
use Rattle.buchi_import.proofs.reading.ended.Goals as goal

pub returns-then-at-text : goal.returns-then-at-text
returns-then-at-text c =
    λ ms vs h k l. ap Err c.refuse.ensures ∙ ap sizes_of (sym (ended-other c.args.text.now ms vs c.args.at (λ e. omega (arith, c.if-at-text.true))))

pub returns-then-k-eq0 : goal.returns-then-k-eq0
returns-then-k-eq0 c =
    λ ms vs h k l. ap Err c.refuse-then-k-eq0.ensures ∙ ap sizes_of (sym (ended-none c.args.text.now ms vs c.args.at (omega (arith, c.if-at-text.false)) (l ∙ c.if-k-eq0.true)))

pub returns : goal.returns
returns c =
    λ ms vs h k l.
    sym (λ i. Ok (record { letters = k i; states = h i / k i }))
    ∙ ap sizes_of (sym (ended-all c.args.text.now ms vs c.args.at (omega (arith, c.if-at-text.false)) (λ e. omega (arith, c.if-k-eq0.false, l, e))))
