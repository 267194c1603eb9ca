-- `buchi_import::filling::put_leading` meets its contract. Assumes nothing.
use mathlib.Core.List.{List, [], ◌∷◌}
use native.Mathlib.Omega.{arith}
use lib.ListN.{get_or}
use Rattle.std.proofs.lemmas.List.{get_or-take, length-take-le}
use Prim.Native.Nat.{ℕ}
use Rattle.slices.proofs.Tables.{length-tab}
use Rattle.numbers.proofs.Stores.{stored-none-tab, stored-entry, stored-as}
use Rattle.buchi_import.proofs.filling.put_leading.Goals as goal

abbrev cells : List ℕ → ℕ → ℕ
cells ts i = get_or ts i 0

pub loop-r-init : goal.loop-r-init
loop-r-init c = stored-none-tab _ _ _

pub put-w-requires : goal.put-w-requires
put-w-requires c = omega (arith, length-tab c.loop-r.r-index (cells c.args.targets.now), length-take-le c.args.count c.args.targets.now c.requires.0)

pub loop-r-preserved : goal.loop-r-preserved
loop-r-preserved c =
    let ts = c.args.targets.now in
    let i = c.loop-r.r-index in
    let e = get_or-take c.args.count ts i 0 (omega (arith, length-take-le c.args.count ts c.requires.0)) in
    stored-entry i (cells ts) c.loop-r.invariant (stored-as (λ k. e k ∷ []) c.put-w.ensures)
