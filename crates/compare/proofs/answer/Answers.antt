-- `compare::answer` is safe: what is printed and said fits its room. Assumes nothing.
use mathlib.Core.Path.{sym}
use Prim.Native.Nat.{ℕ, ◌≤◌}
use native.Mathlib.Omega.{arith}
use lib.ListN.{length, length-replicate}
use lib.Seq.{length-take-le}
use Rattle.compare.proofs.answer.Goals as goal

pub slice_bounds-put_answer-end : goal.slice_bounds-put_answer-end
slice_bounds-put_answer-end c = sym (length-replicate {A = ℕ} 237776 0)

pub slice_bounds-put_answer-end-2 : goal.slice_bounds-put_answer-end-2
slice_bounds-put_answer-end-2 c = sym (length-replicate {A = ℕ} 196608 0)

pub put_answer-printed-requires : goal.put_answer-printed-requires
put_answer-printed-requires c =
    (c.requires.0, c.requires.1, omega (arith, length-replicate {A = ℕ} 237776 0), omega (arith, length-replicate {A = ℕ} 196608 0))

pub slice_bounds-text-end : goal.slice_bounds-text-end
slice_bounds-text-end c =
    let printed : c.put_answer-printed.result.text ≤ length c.put_answer-printed.new.out =
    omega (arith, c.put_answer-printed.ensures.0.fits) in
    printed

pub slice_bounds-print-end : goal.slice_bounds-print-end
slice_bounds-print-end c =
    let printed : c.put_answer-printed.result.text ≤ length c.put_answer-printed.new.out =
    omega (arith, c.put_answer-printed.ensures.0.fits) in
    sym (length-take-le _ _ printed)

pub slice_bounds-said-end : goal.slice_bounds-said-end
slice_bounds-said-end c =
    let said : c.put_answer-printed.result.said ≤ length c.put_answer-printed.new.said =
    omega (arith, c.put_answer-printed.ensures.1.fits) in
    said

pub slice_bounds-say-end : goal.slice_bounds-say-end
slice_bounds-say-end c =
    let said : c.put_answer-printed.result.said ≤ length c.put_answer-printed.new.said =
    omega (arith, c.put_answer-printed.ensures.1.fits) in
    sym (length-take-le _ _ said)
