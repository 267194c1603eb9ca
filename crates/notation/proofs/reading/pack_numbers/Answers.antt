-- `notation::reading::pack_numbers` meets its contract. Assumes nothing.
use Rattle.std.specs.Prelude.{Result, Ok, Err}
use mathlib.Core.Path.{◌≡◌, ap, sym, subst, ◌∙◌}
use mathlib.Core.List.{List}
use Prim.Native.Nat.{ℕ, ◌+◌, ◌*◌, ◌≤◌}
use native.Mathlib.Omega.{arith}
use native.Mathlib.Nat.{mul-le-mul}
use lib.ListN.{length, get_or}
use Rattle.slices.specs.declared.Refusal.{Refusal}
use Rattle.slices.specs.Tables.{sum}
use Rattle.slices.proofs.Tables.{length-tab}
use Rattle.packed.specs.Layout.{pack}
use Rattle.numbers.proofs.Stores.{stored-written}
use Rattle.blocks.specs.Text.{timed, level_in, letters_in, states_in, size_in}
use Rattle.blocks.specs.Numbers.{Blocks, family_of, times_of}
use Rattle.blocks.specs.Values.{Whole}
use Rattle.notation.specs.Reading.{Numbers, ended}
use Rattle.notation.specs.Steps.{Packs}
use Rattle.blocks.proofs.Measures.{bytes-length}
use Rattle.blocks.proofs.Shapes.{whole-readable}
use Rattle.blocks.proofs.FrontRead.{few_letters, few_states, countable}
use Rattle.notation.proofs.Outcomes.{numbers, ended-early, ended-there, packs-refused, packs-short, packs-untimed, packs-filled}
use Rattle.notation.proofs.reading.pack_numbers.Goals as goal

-- the rooms that the sheet and the seconds need
module _ {front parts : List ℕ} (w : Whole front parts) {s n : ℕ} (es : s ≡ letters_in front) (en : n ≡ states_in front) where
  few : (s ≤ 32) × (n ≤ 32) × (n * s ≤ 1024)
  few =
      let l = few_letters front w.first s n es en in
      let m = few_states front w.first s n es en in
      (l, m, mul-le-mul m l)

  module _ {k : ℕ} (ek : (k ≡ sum (states_in front) (size_in front)) × (k ≤ 1024)) where
    many : k * (s + 1) ≤ 33792
    many = let l : s + 1 ≤ 33 = omega (arith, few.0) in mul-le-mul ek.1 l

    need : 2 + n + n * s + k * (s + 1) ≡ length (pack (family_of front parts))
    need = (λ i. 2 + en i + en i * es i + ek.0 i * (es i + 1)) ∙ sym (bytes-length front parts)

  times : {m : ℕ} → m ≡ timed (level_in front) s → (rows : List ℕ) → m ≡ length (times_of front rows)
  times em rows =
      em ∙ ((λ i. timed (level_in front) (es i)) ∙ sym (length-tab (timed (level_in front) (letters_in front)) (λ a. get_or rows (a * 2 + 1) 0)))

-- the blocks and the last block's numbers, after which text is left or not
abbrev blocks : List ℕ → ℕ → List ℕ → Blocks
blocks front at rows = record { front = front; timings = rows; next = at }

abbrev answer : List ℕ → List ℕ → List ℕ → ℕ → List ℕ → Result Numbers Refusal
answer t front parts at rows = ended t (blocks front at rows) (Ok (record { values = parts; next = at }))

there : (t front parts : List ℕ) {at : ℕ} → at ≡ length t → (rows : List ℕ) → answer t front parts at rows ≡ Ok (numbers t (blocks front at rows) parts at)
there t front parts {at} e rows = ended-there t (blocks front at rows) parts at e

pub returns-then-at-text : goal.returns-then-at-text
returns-then-at-text c =
    λ rows.
    packs-refused c.args.out.now c.args.cells (ended-early c.args.text.now (blocks c.args.front.now c.args.at rows) c.args.parts.now c.args.at c.if-at-text.true ∙ ap Err (sym c.refuse.ensures))

pub overflow_add-need : goal.overflow_add-need
overflow_add-need c = omega (arith, few c.requires.0 c.requires.1 c.requires.2)

pub overflow_mul-need : goal.overflow_mul-need
overflow_mul-need c = omega (arith, few c.requires.0 c.requires.1 c.requires.2)

pub overflow_add-need-2 : goal.overflow_add-need-2
overflow_add-need-2 c = omega (arith, few c.requires.0 c.requires.1 c.requires.2)

pub row_count-requires : goal.row_count-requires
row_count-requires c =
    let k = countable c.args.front.now c.requires.0.first c.args.s c.args.n c.requires.1 c.requires.2 in
    record { s_value = k.0; by_index = k.1 }

pub overflow_add-need-3 : goal.overflow_add-need-3
overflow_add-need-3 c = omega (arith, few c.requires.0 c.requires.1 c.requires.2)

pub overflow_mul-need-2 : goal.overflow_mul-need-2
overflow_mul-need-2 c = omega (arith, many c.requires.0 c.requires.1 c.requires.2 c.row_count.ensures)

pub overflow_add-need-4 : goal.overflow_add-need-4
overflow_add-need-4 c =
    omega (arith, many c.requires.0 c.requires.1 c.requires.2 c.row_count.ensures, few c.requires.0 c.requires.1 c.requires.2)

pub returns-then-out-need : goal.returns-then-out-need
returns-then-out-need c =
    λ rows.
    subst (λ (r : Refusal). Packs (answer c.args.text.now c.args.front.now c.args.parts.now c.args.at rows) c.args.cells c.args.out.now c.args.out.now (Err r)) (sym c.refuse-then-out-need.ensures) (packs-short c.args.out.now c.args.cells _ (need c.requires.0 c.requires.1 c.requires.2 c.row_count.ensures) (times c.requires.0 c.requires.1 c.requires.2 c.requires.3 rows) (there c.args.text.now c.args.front.now c.args.parts.now (omega (arith, c.if-at-text.false)) rows) c.if-out-need.true)

pub returns-then-cells-m : goal.returns-then-cells-m
returns-then-cells-m c =
    λ rows.
    subst (λ (r : Refusal). Packs (answer c.args.text.now c.args.front.now c.args.parts.now c.args.at rows) c.args.cells c.args.out.now c.args.out.now (Err r)) (sym c.refuse-then-cells-m.ensures) (packs-untimed c.args.out.now c.args.cells _ (need c.requires.0 c.requires.1 c.requires.2 c.row_count.ensures) (times c.requires.0 c.requires.1 c.requires.2 c.requires.3 rows) (there c.args.text.now c.args.front.now c.args.parts.now (omega (arith, c.if-at-text.false)) rows) c.if-out-need.false c.if-cells-m.true)

pub fill-requires : goal.fill-requires
fill-requires c =
    record { readable = (whole-readable c.args.front.now c.args.parts.now c.requires.0, c.requires.1, c.requires.2); parts_in_bounds = omega (arith, need c.requires.0 c.requires.1 c.requires.2 c.row_count.ensures, c.if-out-need.false) }

pub returns : goal.returns
returns c =
    let full = need c.requires.0 c.requires.1 c.requires.2 c.row_count.ensures in
    λ rows.
    packs-filled c.args.out.now c.args.cells _ full (times c.requires.0 c.requires.1 c.requires.2 c.requires.3 rows) (there c.args.text.now c.args.front.now c.args.parts.now (omega (arith, c.if-at-text.false)) rows) c.if-out-need.false c.if-cells-m.false (stored-written c.fill.ensures (omega (arith, full, c.if-out-need.false)))
