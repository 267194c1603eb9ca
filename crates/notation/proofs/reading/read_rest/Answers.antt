-- `notation::reading::read_rest` meets its contract. Assumes nothing.
use Rattle.slices.proofs.Refusals.{handed}
use Rattle.std.specs.Prelude.{Ok}
use mathlib.Core.Path.{◌≡◌, ap, sym, subst, ◌∙◌}
use mathlib.Core.List.{List}
use Prim.Native.Nat.{ℕ, ◌+◌, ◌*◌, ◌≤◌}
use native.Mathlib.Omega.{arith}
use native.Mathlib.Nat.{mul-le-mul}
use lib.ListN.{length, take, replicate, length-replicate}
use lib.Seq.{length-take-le}
use Rattle.slices.specs.declared.Part.TheVariants.{First}
use Rattle.slices.specs.Tables.{sum}
use Rattle.format.specs.Format.{Fits}
use Rattle.format.proofs.Following.{lost}
use Rattle.blocks.specs.Text.{letters_in, states_in, size_in, parts_format}
use Rattle.blocks.specs.Numbers.{Blocks}
use Rattle.notation.specs.Reading.{ended}
use Rattle.blocks.specs.Values.{front_format, Whole}
use Rattle.blocks.proofs.FrontRead.{few_letters, countable}
use Rattle.blocks.proofs.PartsRead.{Closed, closed}
use Rattle.notation.proofs.Outcomes.{packs-as, packs-refused}
use Rattle.notation.proofs.reading.read_rest.Goals as goal

-- the cells that the block's numbers take
module _ (front : List ℕ) (f : Fits front_format front) {s n : ℕ} (es : s ≡ letters_in front) (en : n ≡ states_in front) where
  few : s ≤ 32
  few = few_letters front f s n es en

  module _ {k : ℕ} (ek : (k ≡ sum (states_in front) (size_in front)) × (k ≤ 1024)) where
    many : k * (s + 3) ≤ 35840
    many = let w : s + 3 ≤ 35 = omega (arith, few) in mul-le-mul ek.1 w

    room : (cells : List ℕ) → length cells ≡ length {A = ℕ} (replicate 35840 0) → k * (s + 3) ≤ length cells
    room cells e = omega (arith, many, e ∙ length-replicate {A = ℕ} 35840 0)

    taken : {t new : List ℕ} {at e : ℕ} (d : Closed t front new at e) → take (k * (s + 3)) new ≡ d.parts
    taken d = d.here (λ i. ek.0 i * (es i + 3))

abbrev blocks : List ℕ → ℕ → List ℕ → Blocks
blocks front at rows = record { front = front; timings = rows; next = at }

pub row_count-requires : goal.row_count-requires
row_count-requires c =
    let k = countable c.args.front.now c.requires.1 c.args.s c.args.n c.requires.2 c.requires.3 in
    record { s_value = k.0; by_index = k.1 }

pub overflow_add-len : goal.overflow_add-len
overflow_add-len c = omega (arith, few c.args.front.now c.requires.1 c.requires.2 c.requires.3)

pub overflow_mul-len : goal.overflow_mul-len
overflow_mul-len c = omega (arith, many c.args.front.now c.requires.1 c.requires.2 c.requires.3 c.row_count.ensures)

pub slice_bounds-parts-end : goal.slice_bounds-parts-end
slice_bounds-parts-end c = room c.args.front.now c.requires.1 c.requires.2 c.requires.3 c.row_count.ensures c.read_progress.new.parts c.read_progress.ensures.same

pub slice_bounds-pack_numbers-end : goal.slice_bounds-pack_numbers-end
slice_bounds-pack_numbers-end c =
    sym (length-take-le _ _ (room c.args.front.now c.requires.1 c.requires.2 c.requires.3 c.row_count.ensures c.read_progress.new.parts c.read_progress.ensures.same))

pub pack_numbers-requires : goal.pack_numbers-requires
pack_numbers-requires c =
    let third = closed c.requires.0 c.requires.1 c.read_progress.ensures c.in_ok-e.was in
    let whole = subst (Whole c.args.front.now) (sym (taken c.args.front.now c.requires.1 c.requires.2 c.requires.3 c.row_count.ensures third)) third.whole in
    (whole, c.requires.2, c.requires.3, c.requires.4)

pub returns-in_err-e : goal.returns-in_err-e
returns-in_err-e c = rw (handed c.from_residual.ensures)
    (λ rows.
    packs-refused c.args.out.now c.args.cells (ap (ended c.args.text.now (blocks c.args.front.now c.args.at rows)) (lost First c.args.text.now (parts_format c.args.front.now) c.args.at c.read_progress.ensures c.in_err-e.was)))

pub returns : goal.returns
returns c =
    let third = closed c.requires.0 c.requires.1 c.read_progress.ensures c.in_ok-e.was in
    let here = third.says ∙ ap (λ (l : List ℕ). Ok (record { values = l; next = c.in_ok-e.e })) (sym (taken c.args.front.now c.requires.1 c.requires.2 c.requires.3 c.row_count.ensures third)) in
    λ rows.
    packs-as c.args.cells (ap (ended c.args.text.now (blocks c.args.front.now c.args.at rows)) here) (c.pack_numbers.ensures rows)
