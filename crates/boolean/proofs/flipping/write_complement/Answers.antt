-- The answers of `boolean::flipping::write_complement`: what stands before the parts, then part after part. Assumes nothing.
use mathlib.Core.Path.{◌≡◌, refl, ap, sym, ◌∙◌}
use mathlib.Core.List.{List, ◌++◌}
use Prim.Native.Nat.{ℕ, ◌+◌, ◌*◌, ◌≤◌, ◌<◌}
use native.Mathlib.Omega.{arith}
use lib.ListN.{length, take, length-append}
use lib.Seq.{length-take-le}
use Rattle.fdfa.specs.Boolean.{complement}
use Rattle.slices.specs.Filling.{written}
use Rattle.slices.proofs.Filling.{begun_first, begun-as, begun_more, written-again}
use Rattle.slices.specs.Tables.{rows}
use Rattle.packed.specs.Layout.{letter_count, state_count, size_of, progress_at_value, decode, front_bytes, part_bytes, Valid}
use Rattle.packed.proofs.Bounds.{few-both, progress-first, progress-next, progress-upto, Body, body}
use Rattle.packed.proofs.Packing.{front_of_lem, length_front, length_part}
use Rattle.boolean.specs.Operations.{complement_bytes}
use Rattle.boolean.proofs.Flips.{flipped-part, done, done-length, done_next, done_first, begun-again}
use Rattle.boolean.proofs.flipping.write_complement.Goals as goal

-- the counts and the leading table
front-few : (b : List ℕ) (n s : ℕ) → Valid b → n ≡ state_count b → s ≡ letter_count b
    → (n ≤ 32) × (n * s ≤ 1024) × (2 + n + n * s ≡ progress_at_value b 0) × (progress_at_value b 0 ≤ length b)
front-few b n s v e l = (
  omega (arith, v.header.few_states, e),
  few-both (omega (arith, v.header.few_states, e)) (omega (arith, v.header.few_letters, l)),
  (λ i. 2 + e i + e i * l i) ∙ sym (progress-first b),
  omega (arith, v.exact, progress-upto b 0 (state_count b) (omega arith)),
)

-- the slice after the copy, and its length
module _ (b out : List ℕ) {n s : ℕ} {new : List ℕ} (v : Valid b) (e : n ≡ state_count b) (l : s ≡ letter_count b) (h : new ≡ written (take (2 + n + n * s) b) out) where
  copied : new ≡ written (front_bytes (decode b)) out
  copied = h ∙ ap (λ (d : List ℕ). written d out) (ap (λ (k : ℕ). take k b) (front-few b n s v e l).2 ∙ front_of_lem b v)

  kept : length b ≤ length out → length new ≡ length out
  kept m = (begun_first copied (omega (arith, length_front (decode b), progress-first b, (front-few b n s v e l).3))).same

-- the part of the leading state at hand
part : (b : List ℕ) {n s q at k : ℕ} → Valid b → (n ≡ state_count b) × (s ≡ letter_count b) → q < n → at ≡ progress_at_value b q → k ≡ size_of b q
    → Body b q at k s
part b v c h a k = body b v.header v.exact (omega (arith, c.0)) a k c.1

pub slice_bounds-copy-end : goal.slice_bounds-copy-end
slice_bounds-copy-end c =
    let f = front-few c.args.sheet.now c.args.states c.args.letters c.requires.valid.0 c.requires.states_value.0 c.requires.states_value.1 in
    sym (length-take-le _ _ (omega (arith, f.2, f.3)))

pub loop-q-init : goal.loop-q-init
loop-q-init c =
    let b = c.args.sheet.now in
    let v = c.requires.valid.0 in
    let s = c.requires.states_value in (
      (front-few b _ _ v s.0 s.1).2,
      begun-as (done_first b) (begun-again c.args.out.now (copied b c.args.out.now v s.0 s.1 c.copy.ensures)),
    )

pub overflow_add-end : goal.overflow_add-end
overflow_add-end c =
    let p = part c.args.sheet.now c.requires.valid.0 c.requires.states_value c.loop-q-test.true c.loop-q.invariant.0 c.size-k.ensures in
    omega (arith, p.within, p.low)

pub overflow_add-end-in-loop-q : goal.overflow_add-end-in-loop-q
overflow_add-end-in-loop-q c =
    let p = part c.args.sheet.now c.requires.valid.0 c.requires.states_value c.loop-q-test.true c.loop-q.invariant.0 c.size-k.ensures in
    omega (arith, p.within, p.low)

pub slice_bounds-flip_part-end : goal.slice_bounds-flip_part-end
slice_bounds-flip_part-end c =
    let p = part c.args.sheet.now c.requires.valid.0 c.requires.states_value c.loop-q-test.true c.loop-q.invariant.0 c.size-k.ensures in
    omega (arith, p.within)

pub loop-q-preserved : goal.loop-q-preserved
loop-q-preserved c =
    let b = c.args.sheet.now in
    let v = c.requires.valid.0 in
    let s = c.requires.states_value in
    let q : c.loop-q.q < state_count b = omega (arith, s.0) in
    let p = part b v s c.loop-q-test.true c.loop-q.invariant.0 c.size-k.ensures in
    let room : c.loop-q.at + c.size-k.result * c.args.letters + c.size-k.result ≤ length c.loop-q.out =
    omega (arith, p.within, c.requires.valid.1, kept b c.args.out.now v s.0 s.1 c.copy.ensures c.requires.valid.1, c.loop-q.invariant.1.same)
    in
    let chunk = flipped-part b v q c.loop-q.invariant.0 c.size-k.ensures s.1 refl in (
      p.next,
      begun-as (ap (λ (l : List ℕ). done b c.loop-q.q ++ l) chunk ∙ done_next b c.loop-q.q)
          (begun_more _ _ c.loop-q.invariant.1 (done-length b c.loop-q.q ∙ sym c.loop-q.invariant.0)
          (omega (arith, ap length chunk, length_part (complement (decode b)) c.loop-q.q, p.next, progress-next b c.loop-q.q, c.loop-q.invariant.0, room, c.loop-q.invariant.1.same))
          c.flip_part.ensures),
    )

pub returns : goal.returns
returns c =
    let b = c.args.sheet.now in
    let v = c.requires.valid.0 in
    let s = c.requires.states_value in
    let e : c.loop-q.q ≡ state_count b = omega (arith, s.0) in
    c.loop-q.invariant.1.cells
    ∙ (ap (λ (k : ℕ). written (done b k) c.copy.new.out) e
    ∙ (ap (written (complement_bytes b)) (copied b c.args.out.now v s.0 s.1 c.copy.ensures)
    ∙ written-again (front_bytes (decode b)) (complement_bytes b) c.args.out.now
    (omega (arith, length-append (front_bytes (decode b)) (rows (state_count b) (part_bytes (complement (decode b))))))))
