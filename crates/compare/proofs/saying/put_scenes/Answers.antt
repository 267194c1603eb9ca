-- `compare::saying::put_scenes` meets its contract. Assumes nothing.
use mathlib.Core.Path.{◌≡◌, ap}
use Prim.Native.Nat.{ℕ}
use native.Mathlib.Omega.{arith}
use lib.ListN.{length}
use Rattle.slices.specs.Tables.{rows}
use Rattle.numbers.proofs.Stores.{stored-none-rows, stored-as}
use Rattle.console.proofs.Printed.{field-few}
use Rattle.compare.specs.Said.{scenes_of}
use Rattle.compare.proofs.Spoken.{scene_at, scene-stored}
use Rattle.compare.proofs.saying.put_scenes.Goals as goal

pub loop-i-init : goal.loop-i-init
loop-i-init c = (stored-none-rows _ _ _, omega arith)

pub put_field-p-requires : goal.put_field-p-requires
put_field-p-requires c =
    omega (arith, c.loop-i.invariant.1, c.requires.0, c.requires.1, field-few c.from.result c.ending_of.result (omega arith))

pub loop-i-preserved : goal.loop-i-preserved
loop-i-preserved c =
    scene-stored c.args.word.now c.loop-i.i c.from.ensures (omega (arith, c.from.ensures, c.type_inv.word c.loop-i.i)) c.ending_of.ensures c.loop-i.invariant.0 c.loop-i.invariant.1 c.put_field-p.ensures

pub returns : goal.returns
unfolding scenes_of
returns c =
    let e : c.loop-i.i ≡ length c.args.word.now = omega arith in
    (stored-as (ap (λ (n : ℕ). rows n (scene_at c.args.word.now)) e) c.loop-i.invariant.0, omega (arith, c.loop-i.invariant.1, c.requires.0))
