-- `blocks::writing::put_sheet` meets its contract. Assumes nothing.
use mathlib.Core.Path.{◌≡◌, ap}
use mathlib.Core.List.{List, [], ◌∷◌, ◌++◌}
use Prim.Native.Nat.{ℕ, ◌≤◌, ◌<◌}
use native.Mathlib.Omega.{arith}
use lib.ListN.{length}
use Rattle.fdfa.specs.Family.{Fdfa}
use Rattle.slices.specs.Tables.{rows}
use Rattle.packed.specs.Layout.{decode, letter_count, state_count, Valid}
use Rattle.packed.proofs.Soundness.{valid-packable}
use Rattle.numbers.proofs.Stores.{stored-then, stored-as}
use Rattle.format.specs.Rows.{line}
use Rattle.blocks.specs.Text.{counts_title, leading_title, progress_title, timed, leading_values_of}
use Rattle.slices.specs.Seconds.{TimesFit}
use Rattle.blocks.specs.Lines.{head_text, seconds_text, part_text}
use Rattle.blocks.proofs.Lengths.{counts-short, seconds-short, head-short, leading-short, parts-short}
use Rattle.blocks.proofs.writing.put_sheet.Goals as goal

-- the pieces of the text, by the sizes that the code has
abbrev counts : ℕ → ℕ → ℕ → List ℕ
counts level s n = counts_title ++ line (level ∷ s ∷ n ∷ [])

abbrev leading : Fdfa → ℕ → List ℕ
leading F n = rows n (λ q. line (leading_values_of F q))

abbrev parts : Fdfa → ℕ → List ℕ
parts F n = rows n (part_text F)

-- how long they are at most
record Short (level s n : ℕ) (sheet seconds : List ℕ) : Type 0 where
  letters : s ≤ 32
  first : length (counts level s n) ≤ 32
  times : length (seconds_text level s seconds) ≤ 270
  head : length (head_text leading_title s) ≤ 130
  rows_few : length (leading (decode sheet) n) ≤ 4352
  mark : length (head_text progress_title s) ≤ 134
  parts_few : length (parts (decode sheet) n) ≤ 143360

short : {level s n : ℕ} {sheet seconds : List ℕ} → Valid sheet × (s ≡ letter_count sheet) × (n ≡ state_count sheet) → (3 ≤ level) × (level < 5) × TimesFit (timed level s) seconds → Short level s n sheet seconds
short {level} {s} {n} {sheet} {seconds} v l =
    let P = valid-packable sheet v.0 in
    let few : (s ≤ 32) × (n ≤ 32) = (omega (arith, v.0.header.few_letters, v.1), omega (arith, v.0.header.few_states, v.2)) in
    record {
      letters = few.0;
      first = counts-short level s n l.1 few.0 few.1;
      times = seconds-short level s seconds few.0 l.2;
      head = head-short leading_title s few.0;
      rows_few = omega (arith, ap (λ (n : ℕ). length (leading (decode sheet) n)) v.2, leading-short (decode sheet) P);
      mark = head-short progress_title s few.0;
      parts_few = omega (arith, ap (λ (n : ℕ). length (parts (decode sheet) n)) v.2, parts-short (decode sheet) P);
    }

pub put_seconds-b-requires : goal.put_seconds-b-requires
put_seconds-b-requires c =
    let k = short c.requires.valid c.requires.le_level in (k.letters, c.requires.le_level.2.many, omega (arith, c.put_counts-a.ensures.next, k.first, k.times))

pub put_head-c-requires : goal.put_head-c-requires
put_head-c-requires c =
    let k = short c.requires.valid c.requires.le_level in (k.letters, omega (arith, c.put_counts-a.ensures.next, c.put_seconds-b.ensures.next, k.first, k.times, k.head))

pub put_leading_rows-d-requires : goal.put_leading_rows-d-requires
put_leading_rows-d-requires c =
    let k = short c.requires.valid c.requires.le_level in (c.requires.valid.0, c.requires.valid.1, c.requires.valid.2, omega (arith, c.put_counts-a.ensures.next, c.put_seconds-b.ensures.next, c.put_head-c.ensures.next, k.first, k.times, k.head, k.rows_few))

pub put_head-e-requires : goal.put_head-e-requires
put_head-e-requires c =
    let k = short c.requires.valid c.requires.le_level in (k.letters, omega (arith, c.put_counts-a.ensures.next, c.put_seconds-b.ensures.next, c.put_head-c.ensures.next, c.put_leading_rows-d.ensures.next, k.first, k.times, k.head, k.rows_few, k.mark))

pub put_parts-requires : goal.put_parts-requires
put_parts-requires c =
    let k = short c.requires.valid c.requires.le_level in (c.requires.valid.0, c.requires.valid.1, c.requires.valid.2, omega (arith, c.put_counts-a.ensures.next, c.put_seconds-b.ensures.next, c.put_head-c.ensures.next, c.put_leading_rows-d.ensures.next, c.put_head-e.ensures.next, k.first, k.times, k.head, k.rows_few, k.mark, k.parts_few))

pub returns : goal.returns
returns c =
    let times : ℕ → List ℕ =
    λ m. seconds_text c.args.level m c.args.seconds.now in
    let F = (decode c.args.sheet.now) in
    stored-as (λ i. counts c.args.level (c.requires.valid.1 i) (c.requires.valid.2 i) ++ (times (c.requires.valid.1 i) ++ ((head_text leading_title (c.requires.valid.1 i) ++ leading F (c.requires.valid.2 i)) ++ (head_text progress_title (c.requires.valid.1 i) ++ parts F (c.requires.valid.2 i)))))
    (stored-then (counts c.args.level c.args.s c.args.n) (times c.args.s ++ ((head_text leading_title c.args.s ++ leading F c.args.n) ++ (head_text progress_title c.args.s ++ parts F c.args.n))) c.put_counts-a.ensures
    (stored-then (times c.args.s) ((head_text leading_title c.args.s ++ leading F c.args.n) ++ (head_text progress_title c.args.s ++ parts F c.args.n)) c.put_seconds-b.ensures
    (stored-then (head_text leading_title c.args.s ++ leading F c.args.n) (head_text progress_title c.args.s ++ parts F c.args.n)
    (stored-then (head_text leading_title c.args.s) (leading F c.args.n) c.put_head-c.ensures c.put_leading_rows-d.ensures)
    (stored-then (head_text progress_title c.args.s) (parts F c.args.n) c.put_head-e.ensures c.put_parts.ensures))))
