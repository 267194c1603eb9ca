-- `search::reading::depth` meets its contract. Assumes nothing.
use native.Mathlib.Omega.{arith}
use Rattle.search.proofs.ReadBack.{counting-start, counting_more, counting-less, counting-end}
use Rattle.search.proofs.reading.depth.Goals as goal

pub loop-c-init : goal.loop-c-init
loop-c-init c = counting-start c.requires

pub overflow_sub-c : goal.overflow_sub-c
overflow_sub-c c = omega arith

pub offset_bounds-cells-c : goal.offset_bounds-cells-c
offset_bounds-cells-c c = omega (arith, c.loop-c.invariant.within, c.loop-c.invariant.inside)

pub bounds-cells-c : goal.bounds-cells-c
bounds-cells-c c = omega (arith, c.loop-c.invariant.within, c.loop-c.invariant.inside, c.loop-c-test.true)

pub overflow_add-d : goal.overflow_add-d
overflow_add-d c = omega (arith, c.loop-c.invariant.within, c.loop-c.invariant.inside)

pub loop-c-smaller : goal.loop-c-smaller
loop-c-smaller c = counting-less c.loop-c.invariant c.loop-c-test.true

pub loop-c-preserved : goal.loop-c-preserved
loop-c-preserved c = counting_more c.loop-c.invariant c.loop-c-test.true

pub returns : goal.returns
returns c = counting-end c.loop-c.invariant c.loop-c-test.false
