-- `format::writing::put_literal` meets its contract. Assumes nothing.
use mathlib.Core.Path.{◌≡◌, ap, ◌∙◌}
use Prim.Native.Nat.{ℕ}
use native.Mathlib.Omega.{arith}
use lib.ListN.{length, get_or}
use Rattle.slices.specs.Tables.{tab}
use Rattle.slices.proofs.Tables.{length-tab, tab-get_or}
use Rattle.numbers.proofs.Stores.{stored-none-tab, stored-entry, stored-as}
use Rattle.format.proofs.writing.put_literal.Goals as goal

pub loop-c-init : goal.loop-c-init
loop-c-init c = stored-none-tab _ _ _

pub put-p-requires : goal.put-p-requires
put-p-requires c =
    let i = c.loop-c in
    omega (arith, i.invariant.next, length-tab i.c-index (λ j. get_or c.args.due.now j 0), c.requires)

pub loop-c-preserved : goal.loop-c-preserved
loop-c-preserved c =
    let i = c.loop-c in
    stored-entry i.c-index (λ j. get_or c.args.due.now j 0) i.invariant c.put-p.ensures

pub returns : goal.returns
returns c =
    let b = c.args.due.now in
    let e : c.loop-c.c-index ≡ length b = omega arith in
    stored-as (ap (λ (k : ℕ). tab k (λ j. get_or b j 0)) e ∙ tab-get_or b) c.loop-c.invariant
