-- A show by itself: which refusal it gets, from what the code knows where it meets it; it gets none exactly if it is a lasso.
-- Assumes nothing.
use Rattle.slices.specs.declared.Reason.{Reason}
use Rattle.slices.specs.declared.Reason.TheVariants.{EmptyLoop, UnknownLetter}
use mathlib.Core.Path.{◌≡◌, ap, sym, subst, ◌∙◌}
use mathlib.Core.List.{List}
use Prim.Native.Nat.{ℕ, ◌+◌, ◌≤◌, ◌<◌}
use native.Mathlib.Omega.{arith}
use lib.Dec.{eqb}
use lib.ListN.{length, get_or, take, drop, length-drop}
use lib.Seq.{length-take-le, get_or-take, get_or-drop}
use borrow.Author.Tests.{lt-ltb, le-ltb, eq-eqb, ne_eqb, eqb-false}
use Rattle.slices.specs.declared.Part.{Part}
use Rattle.slices.specs.declared.Part.TheVariants.{Opening, Loop}
use Rattle.slices.specs.Refusals.{Fault, sound, fault_of, ◌then◌, when}
use Rattle.slices.specs.Scans.{first_outside_of, scan}
use Rattle.slices.proofs.Refusals.{passed, then-left, then-right, when-sound, when-passes}
use Rattle.slices.proofs.Scans.{scan-sound, sound-scan}
use Rattle.fdfa.specs.Words.{Over}
use Rattle.fdfa.specs.Family.{Lasso}
use Rattle.fdfa.proofs.Words.{over-letter, letters-over}
use Rattle.fdfa.proofs.Letters.{some_letters}
use Rattle.carts.specs.Reading.{prefix_length, period_length, prefix_at, period_at, end_at, show_at}
use Rattle.carts.specs.Faults.{show_fault}

-- the code's tests
module _ (s : ℕ) (b : List ℕ) (at : ℕ) {i : ℕ} (stops : i ≡ first_outside_of 0 s b (prefix_at at) (prefix_length b at)) where
  pub bad-prefix : i < prefix_length b at → show_fault s b at ≡ fault_of UnknownLetter Opening (prefix_at at + i)
  unfolding show_fault
  bad-prefix h = rw (← stops, lt-ltb _ _ h)

  module _ (fine : prefix_length b at ≤ i) where
    pub no-period : period_length b at ≡ 0 → show_fault s b at ≡ fault_of EmptyLoop Loop (period_at b at)
    unfolding show_fault
    no-period e = rw (← stops, le-ltb _ _ fine, eq-eqb _ 0 e)

    module _ (some : period_length b at ≡ 0 → ⊥) {j : ℕ} (ends : j ≡ first_outside_of 0 s b (period_at b at) (period_length b at)) where
      pub bad-period : j < period_length b at → show_fault s b at ≡ fault_of UnknownLetter Loop (period_at b at + j)
      unfolding show_fault
      bad-period h = rw (← stops, le-ltb _ _ fine, ne_eqb _ 0 some, ← ends, lt-ltb _ _ h)

      pub good-show : period_length b at ≤ j → show_fault s b at ≡ sound
      unfolding show_fault
      good-show h = rw (← stops, le-ltb _ _ fine, ne_eqb _ 0 some, ← ends, le-ltb _ _ h)

-- a part of the cart as a word
module _ (b : List ℕ) (o m : ℕ) (within : o + m ≤ length b) where
  pub part_length : length (take m (drop o b)) ≡ m
  part_length = length-take-le m (drop o b) (omega (arith, length-drop o b))

  pub part-letter : (i : ℕ) → i < m → get_or (take m (drop o b)) i 0 ≡ get_or b (o + i) 0
  part-letter i h = get_or-take m (drop o b) i 0 h ∙ get_or-drop o b i 0

  module _ (reason : Reason) (part : Part) (s : ℕ) where
    scanned-over : scan reason part 0 s b o m ≡ sound → Over s (take m (drop o b))
    scanned-over e =
        letters-over s (take m (drop o b))
        (λ i h. let l : i < m = omega (arith, part_length) in subst (λ (x : ℕ). x < s) (sym (part-letter i l)) (scan-sound reason part 0 s b o m e i l).1)

    over-scanned : Over s (take m (drop o b)) → scan reason part 0 s b o m ≡ sound
    over-scanned w =
        sound-scan reason part 0 s b o m
        (λ i h. (omega arith, subst (λ (x : ℕ). x < s) (part-letter i h) (over-letter w i (omega (arith, part_length)))))

-- of a show that lies within the cart
module _ (s : ℕ) (b : List ℕ) (at : ℕ) (within : end_at b at ≤ length b) where
  opening-within : prefix_at at + prefix_length b at ≤ length b
  opening-within = omega arith

  pub show-lasso : show_fault s b at ≡ sound → Lasso s (show_at b at).prefix (show_at b at).period
  unfolding show_fault
  show-lasso e = record {
    prefix = scanned-over b (prefix_at at) (prefix_length b at) opening-within UnknownLetter Opening s (then-left t1 (t2 then t3) e);
    period = scanned-over b (period_at b at) (period_length b at) within UnknownLetter Loop s (then-right t2 t3 later);
    loops = λ d. eqb-false (period_length b at) 0 (when-sound _ EmptyLoop Loop _ (then-left t2 t3 later)) (sym (part_length b (period_at b at) (period_length b at) within) ∙ ap length d);
  }
    where
      t1 : Fault
      t1 = scan UnknownLetter Opening 0 s b (prefix_at at) (prefix_length b at)

      t2 : Fault
      t2 = when (eqb (period_length b at) 0) EmptyLoop Loop (period_at b at)

      t3 : Fault
      t3 = scan UnknownLetter Loop 0 s b (period_at b at) (period_length b at)

      later : t2 then t3 ≡ sound
      later = then-right t1 (t2 then t3) e

  pub lasso-show : Lasso s (show_at b at).prefix (show_at b at).period → show_fault s b at ≡ sound
  unfolding show_fault
  lasso-show l =
      passed _ (over-scanned b (prefix_at at) (prefix_length b at) opening-within UnknownLetter Opening s l.prefix)
      ∙ (passed _ (when-passes EmptyLoop Loop (period_at b at) (ne_eqb (period_length b at) 0 some))
      ∙ over-scanned b (period_at b at) (period_length b at) within UnknownLetter Loop s l.period)
    where
      some : period_length b at ≡ 0 → ⊥
      some e = some_letters (show_at b at).period l.loops (part_length b (period_at b at) (period_length b at) within ∙ e)
