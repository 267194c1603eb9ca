-- Two words are refused neither for a letter nor for an empty period exactly if they are a lasso over the letters; a first unknown letter
-- of the prefix is what they are refused for. Assumes nothing.
use Rattle.slices.specs.declared.Reason.TheVariants.{EmptyLoop, UnknownLetter}
use mathlib.Core.Path.{◌≡◌, refl, ap, subst, ◌∙◌}
use mathlib.Core.List.{List, [], ◌∷◌}
use Prim.Native.Nat.{ℕ, ◌≤◌, ◌<◌}
use native.Mathlib.Omega.{arith}
use native.Mathlib.Nat.{zero-add}
use lib.Dec.{eqb}
use lib.ListN.{length, get_or}
use lib.Seq.{length-take-le, get_or-take}
use borrow.Author.Tests.{ne_eqb, eqb-false}
use Rattle.slices.specs.declared.Part.{Part}
use Rattle.slices.specs.declared.Part.TheVariants.{Opening, Loop}
use Rattle.slices.specs.Refusals.{Fault, sound, fault_of, ◌then◌, when}
use Rattle.slices.specs.Scans.{scan}
use Rattle.slices.specs.LassoLetters.{period_fault, letters_fault}
use Rattle.slices.proofs.Refusals.{passed, failed, then-left, then-right, when-sound}
use Rattle.slices.proofs.Scans.{scan-sound, sound-scan, scan-fault}
use Rattle.fdfa.specs.Words.{Over}
use Rattle.fdfa.specs.Family.{Lasso}
use Rattle.fdfa.specs.Pass.{FirstUnknown}
use Rattle.fdfa.proofs.Words.{letters-over, over-letter}

word_over : (part : Part) (s : ℕ) (w : List ℕ) → scan UnknownLetter part 0 s w 0 (length w) ≡ sound → Over s w
word_over part s w e = letters-over s w (λ i h. rw (zero-add i) at (scan-sound UnknownLetter part 0 s w 0 (length w) e i h).1)

over_word : (part : Part) (s : ℕ) (w : List ℕ) → Over s w → scan UnknownLetter part 0 s w 0 (length w) ≡ sound
over_word part s w o = sound-scan UnknownLetter part 0 s w 0 (length w) (λ i h. (omega arith, rw (zero-add i) (over-letter o i h)))

first-refused : (part : Part) (s : ℕ) (w : List ℕ) (i : ℕ) → FirstUnknown s w i → scan UnknownLetter part 0 s w 0 (length w) ≡ fault_of UnknownLetter part i
first-refused part s w i u =
    scan-fault UnknownLetter part 0 s w 0 (length w) i u.within (λ k h. (omega arith, rw (zero-add k) (before k h))) (rw (zero-add i) u.here)
    ∙ ap (fault_of UnknownLetter part) (zero-add i)
  where
    before : (k : ℕ) → k < i → get_or w k 0 < s
    before k h = subst (λ (x : ℕ). x < s) (get_or-take i w k 0 h) (over-letter u.before k (omega (arith, length-take-le i w (omega (arith, u.within)))))

-- a word that is not empty has some letters
pub some_letters : (v : List ℕ) → (v ≡ [] → ⊥) → length v ≡ 0 → ⊥
some_letters [] h e = h refl
some_letters (a ∷ v) h e = omega arith

-- a lasso over some letters is one over more
pub lasso-more : {s t : ℕ} {u v : List ℕ} → s ≤ t → Lasso s u v → Lasso t u v
lasso-more {s} {t} h l = record { prefix = more l.prefix; period = more l.period; loops = l.loops }
  where
    more : {w : List ℕ} → Over s w → Over t w
    more {w} o = letters-over t w (λ i k. omega (arith, h, over-letter o i k))

module _ (s : ℕ) (u v : List ℕ) where
  -- the first unknown letter of the prefix is refused; where there is none, the period is judged
  pub unknown-fault : (i : ℕ) → FirstUnknown s u i → letters_fault s u v ≡ fault_of UnknownLetter Opening i
  unfolding letters_fault
  unknown-fault i k = failed _ (first-refused Opening s u i k)

  pub known-fault : Over s u → letters_fault s u v ≡ period_fault s v
  unfolding letters_fault
  known-fault o = passed _ (over_word Opening s u o)

  pub letters-lasso : letters_fault s u v ≡ sound → Lasso s u v
  unfolding letters_fault period_fault
  letters-lasso e = record {
    prefix = word_over Opening s u (then-left t1 (t2 then t3) e);
    period = word_over Loop s v (then-right t2 t3 e2);
    loops = λ d. eqb-false (length v) 0 (when-sound _ EmptyLoop Loop 0 (then-left t2 t3 e2)) (ap length d);
  }
    where
      t1 : Fault
      t1 = scan UnknownLetter Opening 0 s u 0 (length u)

      t2 : Fault
      t2 = when (eqb (length v) 0) EmptyLoop Loop 0

      t3 : Fault
      t3 = scan UnknownLetter Loop 0 s v 0 (length v)

      e2 : t2 then t3 ≡ sound
      e2 = then-right t1 (t2 then t3) e

  pub lasso-letters : Lasso s u v → letters_fault s u v ≡ sound
  unfolding letters_fault period_fault
  lasso-letters l = rw (over_word Opening s u l.prefix, ne_eqb (length v) 0 (some_letters v l.loops)) (over_word Loop s v l.period)
