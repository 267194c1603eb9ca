-- A sheet is refused for nothing exactly if it is valid. Assumes nothing.
use Rattle.slices.specs.declared.Reason.TheVariants.{SheetLength, LetterCount, StateCount, ProgressSize, NextState}
use Rattle.slices.specs.declared.Reason.TheVariants.{MarkByte, LettersDiffer}
use mathlib.Core.Path.{◌≡◌, refl, subst, ◌∙◌}
use mathlib.Core.Bool.{not}
use mathlib.Core.List.{List}
use Prim.Native.Nat.{ℕ, zero, suc, ◌+◌, ◌*◌, ◌/◌, ◌%◌, ◌≤◌, ◌<◌}
use native.Mathlib.Omega.{arith}
use native.Mathlib.Decide.{ℕ_discrete}
use native.Mathlib.Nat.{div-add-mod', div-lt_iff_lt-mul, mod-lt}
use lib.Arith.{digits_lt}
use lib.Dec.{ltb, eqb}
use lib.ListN.{length, get_or}
use borrow.Author.Tests.{le-ltb, ltb-false, eq-eqb, eqb-true, not-false}
use Rattle.slices.specs.declared.Part.{Part}
use Rattle.slices.specs.declared.Part.TheVariants.{First, Second}
use Rattle.fdfa.specs.Family.{Closed}
use Rattle.slices.specs.Refusals.{Fault, sound, ◌then◌, when}
use Rattle.slices.proofs.Refusals.{passed, then-left, then-right, when-sound}
use Rattle.packed.specs.Layout.{letter_count, state_count, size_of, leading_at, progress_at_value, marks_at, sheet_length, table_step, decode, Packable, Header, Valid}
use Rattle.slices.specs.Scans.{outside, scan}
use Rattle.packed.specs.Faults.{progress_fault, header_fault, tables_fault, sheet_fault, second_fault, pair_fault}
use Rattle.slices.proofs.Scans.{inside, not-outside, scan-sound, sound-scan}

-- The two tables of a leading state.
record Good (b : List ℕ) (q : ℕ) : Type 0 where
  pub next : (k : ℕ) → k < size_of b q * letter_count b → get_or b (progress_at_value b q + k) 0 < size_of b q
  pub marks : (p : ℕ) → p < size_of b q → get_or b (marks_at b q + p) 0 < 2

progress-good : (part : Part) (b : List ℕ) (c q : ℕ) → progress_fault part b q c ≡ sound → (r : ℕ) → q ≤ r → r < q + c → Good b r
unfolding progress_fault
progress-good part b zero q e r h l = absurd (omega arith)
progress-good part b (suc c) q e r h l = by (ℕ_discrete q r) (progress-good part b c (suc q) after)
  where
    s5 : Fault
    s5 = scan NextState part 0 (size_of b q) b (progress_at_value b q) (size_of b q * letter_count b)

    s6 : Fault
    s6 = scan MarkByte part 0 2 b (marks_at b q) (size_of b q)

    rest : Fault
    rest = progress_fault part b (suc q) c

    -- `then` groups to the right
    later : s6 then rest ≡ sound
    later = then-right s5 (s6 then rest) e

    after : rest ≡ sound
    after = then-right s6 rest later

    here : Good b q
    here = record {
      next = λ k l. (scan-sound NextState part 0 (size_of b q) b (progress_at_value b q) _ (then-left s5 (s6 then rest) e) k l).1;
      marks = λ p l. (scan-sound MarkByte part 0 2 b (marks_at b q) (size_of b q) (then-left s6 rest later) p l).1;
    }

    by : Dec (q ≡ r) → ((r : ℕ) → suc q ≤ r → r < suc q + c → Good b r) → Good b r
    by (yes d) ih = subst (Good b) d here
    by (no d) ih = ih r (omega arith) (omega arith)

good-progress : (part : Part) (b : List ℕ) (c q : ℕ) → ((r : ℕ) → q ≤ r → r < q + c → Good b r) → progress_fault part b q c ≡ sound
unfolding progress_fault
good-progress part b zero q good = refl
good-progress part b (suc c) q good =
    passed _ (sound-scan NextState part 0 (size_of b q) b (progress_at_value b q) _ (λ k l. (omega arith, g.next k l)))
    ∙ (passed _ (sound-scan MarkByte part 0 2 b (marks_at b q) (size_of b q) (λ k l. (omega arith, g.marks k l)))
    ∙ good-progress part b c (suc q) (λ r h l. good r (omega arith) (omega arith)))
  where
    g : Good b q
    g = good q (omega arith) (omega arith)

-- the counts are refused for nothing exactly if they are good
module _ (part : Part) (b : List ℕ) where
  pub sound-header : header_fault part b ≡ sound → Header b
  unfolding header_fault
  sound-header e = record {
    long = ltb-false (length b) (leading_at b) (when-sound _ SheetLength part _ (then-left t4 _ e4));
    some_letters = l.0;
    few_letters = omega (arith, l.1);
    some_states = n.0;
    few_states = omega (arith, n.1);
    some_size = λ q h. (k q h).0;
    few_size = λ q h. omega (arith, (k q h).1);
  }
    where
      t2 : Fault
      t2 = when (outside 1 33 (letter_count b)) LetterCount part 0

      t3 : Fault
      t3 = when (outside 1 33 (state_count b)) StateCount part 1

      t4 : Fault
      t4 = when (ltb (length b) (leading_at b)) SheetLength part (length b)

      e2 : t2 then (t3 then (t4 then scan ProgressSize part 1 33 b 2 (state_count b))) ≡ sound
      e2 = then-right (when (ltb (length b) 2) SheetLength part (length b)) _ e

      e3 : t3 then (t4 then scan ProgressSize part 1 33 b 2 (state_count b)) ≡ sound
      e3 = then-right t2 _ e2

      e4 : t4 then scan ProgressSize part 1 33 b 2 (state_count b) ≡ sound
      e4 = then-right t3 _ e3

      l : (1 ≤ letter_count b) × (letter_count b < 33)
      l = inside 1 33 (letter_count b) (when-sound _ LetterCount part 0 (then-left t2 _ e2))

      n : (1 ≤ state_count b) × (state_count b < 33)
      n = inside 1 33 (state_count b) (when-sound _ StateCount part 1 (then-left t3 _ e3))

      k : (q : ℕ) → q < state_count b → (1 ≤ size_of b q) × (size_of b q < 33)
      k = scan-sound ProgressSize part 1 33 b 2 (state_count b) (then-right t4 _ e4)

  header-sound : Header b → header_fault part b ≡ sound
  unfolding header_fault
  header-sound h =
      rw (
        le-ltb (length b) 2 (omega (arith, h.long)),
        not-outside 1 33 (letter_count b) h.some_letters (omega (arith, h.few_letters)),
        not-outside 1 33 (state_count b) h.some_states (omega (arith, h.few_states)),
        le-ltb (length b) (leading_at b) h.long,
      )
      (sound-scan ProgressSize part 1 33 b 2 (state_count b) (λ q l. (h.some_size q l, omega (arith, h.few_size q l))))

-- and so is the whole sheet
module _ (part : Part) (b : List ℕ) where
  pub sound-valid : sheet_fault part b ≡ sound → Valid b
  unfolding sheet_fault tables_fault
  sound-valid e = record {
    header = sound-header part b (then-left (header_fault part b) (tables_fault part b) e);
    exact = eqb-true (length b) (sheet_length b) (not-false _ (when-sound _ SheetLength part _ (then-left whole _ tables)));
    leads = λ q a h i. (scan-sound NextState part 0 (state_count b) b (leading_at b) _ (then-left leading progress rest) (q * letter_count b + a) (digits_lt h i)).1;
    progresses = λ q h p a i j. (g q h).next (p * letter_count b + a) (digits_lt i j);
    marks = λ q p h i. (g q h).marks p i;
  }
    where
      whole : Fault
      whole = when (not (eqb (length b) (sheet_length b))) SheetLength part (length b)

      leading : Fault
      leading = scan NextState part 0 (state_count b) b (leading_at b) (state_count b * letter_count b)

      progress : Fault
      progress = progress_fault part b 0 (state_count b)

      tables : whole then (leading then progress) ≡ sound
      tables = then-right (header_fault part b) (tables_fault part b) e

      rest : leading then progress ≡ sound
      rest = then-right whole _ tables

      g : (q : ℕ) → q < state_count b → Good b q
      g q h = progress-good part b (state_count b) 0 (then-right leading progress rest) q (omega arith) (omega arith)

  pub valid-sound : Valid b → sheet_fault part b ≡ sound
  unfolding sheet_fault tables_fault
  valid-sound v =
      rw (
        header-sound part b v.header,
        eq-eqb (length b) (sheet_length b) v.exact,
        sound-scan NextState part 0 (state_count b) b (leading_at b) _ (λ k l. (omega arith, entry (state_count b) (leading_at b) v.leads k l)),
      )
      (good-progress part b (state_count b) 0 (λ r i l. good r (omega arith)))
    where
      -- an entry of a table, by its place
      entry : (k at : ℕ) → Closed (letter_count b) k (table_step b at (letter_count b)) → (i : ℕ) → i < k * letter_count b → get_or b (at + i) 0 < k
      entry k at closed i l =
          subst (λ (x : ℕ). get_or b (at + x) 0 < k) (div-add-mod' i (letter_count b))
          (closed (i / letter_count b) (i % letter_count b) ((div-lt_iff_lt-mul v.header.some_letters).1 l) (mod-lt i v.header.some_letters))

      good : (q : ℕ) → q < state_count b → Good b q
      good q l = record { next = entry (size_of b q) (progress_at_value b q) (v.progresses q l); marks = λ p i. v.marks q p l i }

-- the family of a valid sheet is complete, with every count from 1 to 32
pub valid-packable : (b : List ℕ) → Valid b → Packable (decode b)
valid-packable b v = record {
  complete = record {
    start = v.header.some_states;
    leads = v.leads;
    starts = v.header.some_size;
    progresses = v.progresses;
  };
  some_letters = v.header.some_letters;
  few_letters = v.header.few_letters;
  few_states = v.header.few_states;
  few_progress = v.header.few_size;
}

-- two sheets are refused for nothing exactly if both are valid, with the same letters
pub pair-valid : (b c : List ℕ) → pair_fault b c ≡ sound → Valid b × Valid c × (letter_count b ≡ letter_count c)
pair-valid b c e = (
  sound-valid First b (then-left (sheet_fault First b) (second_fault (letter_count b) c) e),
  sound-valid Second c (then-left (sheet_fault Second c) _ later),
  eqb-true (letter_count b) (letter_count c) (not-false _ (when-sound _ LettersDiffer Second 0 (then-right (sheet_fault Second c) _ later))),
)
  where
    later : second_fault (letter_count b) c ≡ sound
    later = then-right (sheet_fault First b) (second_fault (letter_count b) c) e

pub valid-pair : (b c : List ℕ) → Valid b → Valid c → letter_count b ≡ letter_count c → pair_fault b c ≡ sound
valid-pair b c v w e = rw (valid-sound First b v, valid-sound Second c w, eq-eqb (letter_count b) (letter_count c) e)
