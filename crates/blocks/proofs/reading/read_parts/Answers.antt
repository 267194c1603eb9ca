-- `blocks::reading::read_parts` meets its contract. Assumes nothing.
use Rattle.slices.proofs.Refusals.{handed}
use mathlib.Core.Path.{◌≡◌, refl, ap, sym, subst, ◌∙◌}
use mathlib.Core.List.{List}
use Prim.Native.Nat.{ℕ, ◌+◌, ◌*◌, ◌-◌, ◌≤◌, ◌<◌}
use native.Mathlib.Omega.{arith}
use lib.ListN.{length, get_or}
use borrow.Rule.Slice.PartMut.{put_mid, same_len_mid}
use Rattle.slices.specs.declared.Part.TheVariants.{First}
use Rattle.slices.proofs.Filling.{lent_length}
use Rattle.format.specs.declared.Row.{Row}
use Rattle.format.specs.Format.{Fits, reading}
use Rattle.format.proofs.Steps.{placed-refused, placed-given}
use Rattle.format.proofs.Repeating.{Partly, partly_none, partly-row, partly-refused, partly-all}
use Rattle.format.proofs.Following.{reads_as}
use Rattle.blocks.specs.Text.{letters_in, states_in, size_in}
use Rattle.blocks.specs.Values.{front_format}
use Rattle.blocks.proofs.Measures.{size-read, size-place}
use Rattle.blocks.proofs.FrontRead.{few_letters, few_states, front-end, few_size, few_rows}
use Rattle.blocks.proofs.PartsRead.{parted, part-rows, part-ends, part-long}
use Rattle.blocks.proofs.reading.read_parts.Goals as goal

module _ (front : List ℕ) (f : Fits front_format front) {s n q : ℕ} (es : s ≡ letters_in front) (en : n ≡ states_in front) (l : q < n) where
  -- where the size of the part of q is read
  place : (q * (s + 2) ≤ 1088) × (3 + q * (s + 2) + 1 < length front)
  place = size-place front s q n l (few_states front f s n es en) (few_letters front f s n es en) (omega (arith, front-end front f s n es en))

  module _ {k : ℕ} (ek : k ≡ get_or front (3 + q * (s + 2) + 1) 0) where
    sized : k ≡ size_in front q
    sized = ek ∙ size-read front s q es

    -- the part of q has room
    room : {t old new : List ℕ} {at p w : ℕ} → at ≤ length t → 35840 ≤ length old → Partly First t (parted s (size_in front)) n at old new p w q → (k ≤ 32) × (w + k * (s + 3) ≤ 35840) × (35840 ≤ length new)
    room h long x =
        let z = ap (λ (k : ℕ). k * (s + 3)) sized in (
          omega (arith, sized, few_size front f s n es en q l),
          omega (arith, z, part-ends s (size_in front) h x, few_rows front f s n es en (q + 1) (omega (arith, l))),
          omega (arith, long, x.begun.same),
        )

pub loop-q-init : goal.loop-q-init
loop-q-init c = partly_none _ _ _ _ _ _ c.requires.0

pub bounds-front-q : goal.bounds-front-q
bounds-front-q c = (place c.args.front.now c.requires.1 c.requires.2 c.requires.3 c.loop-q-test.true).1

pub progress_row-requires : goal.progress_row-requires
progress_row-requires c = (few_letters c.args.front.now c.requires.1 c.args.s c.args.n c.requires.2 c.requires.3, omega (arith, few_states c.args.front.now c.requires.1 c.args.s c.args.n c.requires.2 c.requires.3, c.loop-q-test.true))

pub offset_bounds-parts-w : goal.offset_bounds-parts-w
offset_bounds-parts-w c = omega (arith, room c.args.front.now c.requires.1 c.requires.2 c.requires.3 c.loop-q-test.true c.from-k.ensures c.requires.0 c.requires.4 c.loop-q.invariant, c.well_formed)

pub slice_bounds-read_rows-count : goal.slice_bounds-read_rows-count
slice_bounds-read_rows-count c = omega (arith, room c.args.front.now c.requires.1 c.requires.2 c.requires.3 c.loop-q-test.true c.from-k.ensures c.requires.0 c.requires.4 c.loop-q.invariant)

pub slice_bounds-read_rows-start : goal.slice_bounds-read_rows-start
slice_bounds-read_rows-start c = omega (arith, room c.args.front.now c.requires.1 c.requires.2 c.requires.3 c.loop-q-test.true c.from-k.ensures c.requires.0 c.requires.4 c.loop-q.invariant)

pub read_rows-requires : goal.read_rows-requires
read_rows-requires c =
    let r = room c.args.front.now c.requires.1 c.requires.2 c.requires.3 c.loop-q-test.true c.from-k.ensures c.requires.0 c.requires.4 c.loop-q.invariant in (
      c.loop-q.invariant.inside,
      omega (arith, r.0),
      omega (arith, ap (λ (x : Row). c.from-k.result * x.count) c.progress_row.ensures, r, lent_length {a = c.loop-q.w} c.loop-q.invariant.begun (omega (arith, r))),
    )

pub returns-in_err-p : goal.returns-in_err-p
returns-in_err-p c = rw (handed c.from_residual.ensures)
    (let did = reads_as (part-rows c.args.text.now c.loop-q.p c.args.s c.loop-q.q (sized c.args.front.now c.requires.1 c.requires.2 c.requires.3 c.loop-q-test.true c.from-k.ensures) c.progress_row.ensures) c.read_rows.ensures in
    let back = same_len_mid c.loop-q.w (length c.loop-q.parts - c.loop-q.w) c.loop-q.parts c.read_rows.new.values did.same ∙ c.loop-q.invariant.begun.same in
    partly-refused c.loop-q.invariant c.loop-q-test.true (placed-refused (reading First c.args.text.now (parted c.args.s (size_in c.args.front.now) c.loop-q.q) c.loop-q.p) (sym did.says ∙ c.in_err-p.was)) refl back)

pub overflow_add-w-in-loop-q : goal.overflow_add-w-in-loop-q
overflow_add-w-in-loop-q c = omega (arith, room c.args.front.now c.requires.1 c.requires.2 c.requires.3 c.loop-q-test.true c.from-k.ensures c.requires.0 c.requires.4 c.loop-q.invariant)

pub loop-q-preserved : goal.loop-q-preserved
loop-q-preserved c =
    let did = reads_as (part-rows c.args.text.now c.loop-q.p c.args.s c.loop-q.q (sized c.args.front.now c.requires.1 c.requires.2 c.requires.3 c.loop-q-test.true c.from-k.ensures) c.progress_row.ensures) c.read_rows.ensures in
    let g = placed-given (reading First c.args.text.now (parted c.args.s (size_in c.args.front.now) c.loop-q.q) c.loop-q.p) (sym did.says ∙ c.in_ok-p.was) in
    let long : c.from-k.result * (c.args.s + 3) ≡ length g.0.values = ap (λ (m : ℕ). m * (c.args.s + 3)) (sized c.args.front.now c.requires.1 c.requires.2 c.requires.3 c.loop-q-test.true c.from-k.ensures) ∙ part-long c.args.s (size_in c.args.front.now) c.requires.0 c.loop-q.invariant g.1 in
    subst (λ (e : ℕ). Partly First c.args.text.now (parted c.args.s (size_in c.args.front.now)) c.args.n c.args.at c.args.parts.now (put_mid c.loop-q.w (length c.loop-q.parts - c.loop-q.w) c.loop-q.parts c.read_rows.new.values) e (c.loop-q.w + c.from-k.result * (c.args.s + 3)) (c.loop-q.q + 1)) g.2 (partly-row c.loop-q.invariant c.read_rows.new.values c.loop-q-test.true g.1 long (omega (arith, room c.args.front.now c.requires.1 c.requires.2 c.requires.3 c.loop-q-test.true c.from-k.ensures c.requires.0 c.requires.4 c.loop-q.invariant)) (did.cells g.0 g.1))

pub returns : goal.returns
returns c = partly-all c.loop-q.invariant (omega arith) refl
