-- `verdict::answer` is safe: what is printed and said fits its room. Assumes nothing.
use mathlib.Core.Path.{sym}
use Prim.Native.Nat.{◌≤◌}
use native.Mathlib.Omega.{arith}
use lib.ListN.{length}
use lib.Seq.{length-take-le}
use Rattle.verdict.proofs.answer.Goals as goal

pub slice_bounds-text-end : goal.slice_bounds-text-end
slice_bounds-text-end c =
    let printed : c.put_answer-printed.result.text ≤ length c.put_answer-printed.new.out =
    omega (arith, c.put_answer-printed.ensures.0.fits) in
    printed

pub slice_bounds-print-end : goal.slice_bounds-print-end
slice_bounds-print-end c =
    let printed : c.put_answer-printed.result.text ≤ length c.put_answer-printed.new.out =
    omega (arith, c.put_answer-printed.ensures.0.fits) in
    sym (length-take-le _ _ printed)

pub slice_bounds-said-end : goal.slice_bounds-said-end
slice_bounds-said-end c =
    let said : c.put_answer-printed.result.said ≤ length c.put_answer-printed.new.said =
    omega (arith, c.put_answer-printed.ensures.1.fits) in
    said

pub slice_bounds-say-end : goal.slice_bounds-say-end
slice_bounds-say-end c =
    let said : c.put_answer-printed.result.said ≤ length c.put_answer-printed.new.said =
    omega (arith, c.put_answer-printed.ensures.1.fits) in
    sym (length-take-le _ _ said)
