-- `search::reading::fill` meets its contract. Assumes nothing.
use Rattle.search.proofs.ReadBack.{filling-start, filling-at, filling-more, filling-end}
use Rattle.search.proofs.reading.fill.Goals as goal

pub loop-at-init : goal.loop-at-init
loop-at-init c = filling-start c.args.out.now c.requires.deep c.requires.code_in_bounds.0 c.requires.code_in_bounds.1

pub overflow_sub-e : goal.overflow_sub-e
overflow_sub-e c = filling-at c.loop-at.invariant c.loop-at-test.true

pub loop-at-preserved : goal.loop-at-preserved
loop-at-preserved c = filling-more c.loop-at.invariant c.loop-at-test.true

pub returns : goal.returns
returns c = filling-end c.loop-at.invariant c.loop-at-test.false
