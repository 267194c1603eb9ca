-- Two valid sheets with the same letters: the pairs of their states are closed under every letter, and every table and mark
-- that is read of them lies within the sheets. Assumes nothing.
use mathlib.Core.Path.{◌≡◌, refl}
use mathlib.Core.List.{List}
use Prim.Native.Nat.{ℕ, ◌+◌, ◌*◌, ◌≤◌, ◌<◌}
use native.Mathlib.Omega.{arith}
use native.Mathlib.Nat.{mod-lt}
use lib.Arith.{digits_lt}
use lib.ListN.{length}
use Rattle.slices.specs.Refusals.{sound}
use Rattle.slices.proofs.Extremes.{largest-most}
use Rattle.fdfa.specs.Family.{Closed}
use Rattle.fdfa.specs.Inclusion.{widest}
use Rattle.fdfa.proofs.Product.{left_below, beside-closed}
use Rattle.packed.specs.Layout.{letter_count, state_count, size_of, leading_at, progress_at_value, table_step, decode}
use Rattle.packed.specs.Faults.{pair_fault}
use Rattle.packed.proofs.Bounds.{few-both, Body, body}
use Rattle.packed.proofs.Reading.{lead-fits}
use Rattle.packed.proofs.Soundness.{pair-valid}
use Rattle.pairing.specs.declared.Beside.{Beside}
use Rattle.pairing.specs.Pairs.{Alike, leads_of, progress_of, marks_of, Steps, MarksRead}

-- two sheets that are refused for nothing
pub sound-alike : (b c : List ℕ) → pair_fault b c ≡ sound → Alike b c
sound-alike b c e = let v = pair-valid b c e in record { first = v.0; second = v.1; letters = v.2 }

-- two closed tables side by side, the first of k states
steps_of : (b c : List ℕ) (t : Beside) (k : ℕ) → t.letters ≤ 32 → 0 < t.width → k * t.width ≤ 1024 → t.first + k * t.letters ≤ length b → t.second + t.width * t.letters ≤ length c
    → Closed t.letters k (table_step b t.first t.letters) → Closed t.letters t.width (table_step c t.second t.letters) → Steps b c t (k * t.width)
steps_of b c t k letters some room hf hg cf cg = record {
  few_letters = letters;
  wide = some;
  few = room;
  closed = beside-closed some cf cg;
  reads = λ x h. record {
    wide = some;
    first = λ a i. omega (arith, digits_lt (left_below some h) i);
    second = λ a i. omega (arith, digits_lt (mod-lt x some) i);
    few = λ a i. omega (arith, beside-closed some cf cg x a h i);
  };
}

module _ {b c : List ℕ} (A : Alike b c) where
  -- N and K
  pub few_pairs : state_count b * state_count c ≤ 1024
  few_pairs = few-both A.first.header.few_states A.second.header.few_states

  pub few-widest : widest (decode b) * widest (decode c) ≤ 1024
  few-widest = few-both (largest-most _ _ 32 A.first.header.few_size) (largest-most _ _ 32 A.second.header.few_size)

  lead-end : leading_at c + state_count c * letter_count b ≤ length c
  lead-end = rw A.letters (lead-fits c A.second)

  pub lead-steps : Steps b c (leads_of b c) (state_count b * state_count c)
  lead-steps =
      steps_of b c (leads_of b c) (state_count b) A.first.header.few_letters A.second.header.some_states few_pairs
      (lead-fits b A.first) lead-end A.first.leads (rw A.letters A.second.leads)

  module _ (p q : ℕ) (hp : p < state_count b) (hq : q < state_count c) where
    pub first_part : Body b p (progress_at_value b p) (size_of b p) (letter_count b)
    first_part = body b A.first.header A.first.exact hp refl refl refl

    pub second-part : Body c q (progress_at_value c q) (size_of c q) (letter_count b)
    second-part = body c A.second.header A.second.exact hq refl refl A.letters

    pub few_progress : size_of b p * size_of c q ≤ 1024
    few_progress = few-both first_part.size second-part.size

    pub progress-steps : Steps b c (progress_of b c p q) (size_of b p * size_of c q)
    progress-steps =
        steps_of b c (progress_of b c p q) (size_of b p) A.first.header.few_letters (A.second.header.some_size q hq) few_progress
        (omega (arith, first_part.within)) (omega (arith, second-part.within))
        (A.first.progresses p hp) (rw A.letters (A.second.progresses q hq))

    pub marks-read : MarksRead b c (marks_of b c p q) (size_of b p)
    marks-read = record {
      wide = A.second.header.some_size q hq;
      first = omega (arith, first_part.marks, first_part.within);
      second = omega (arith, second-part.marks, second-part.within);
    }
