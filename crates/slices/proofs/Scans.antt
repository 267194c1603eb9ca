-- What a scan says, from the place that it stopped at. Assumes nothing.
use Rattle.slices.specs.declared.Reason.{Reason}
use mathlib.Core.Path.{◌≡◌, refl, ap, sym, ◌∙◌}
use mathlib.Core.Bool.{Bool, true, false, cond, ◌||◌, true≢false}
use mathlib.Core.List.{List}
use Prim.Native.Nat.{ℕ, ◌+◌, ◌≤◌, ◌<◌}
use native.Mathlib.Omega.{arith}
use native.Mathlib.Decide.{dec_lt}
use lib.Dec.{ltb, leb}
use lib.ListN.{length, get_or, take, drop, length-drop}
use lib.Seq.{get_or-take, get_or-drop, length-take-le}
use borrow.Author.Tests.{lt-ltb, le-ltb, le-leb, lt-leb, ltb-false, leb-false}
use Rattle.std.specs.List.{position, position_or_len}
use Rattle.std.specs.Option.{unwrap_or}
use Rattle.std.specs.declared.option.Option.{Option}
use Rattle.std.specs.declared.option.Option.TheVariants.{Some, None}
use Rattle.std.proofs.lemmas.List.Sums.{position_or_len_is}
use Rattle.slices.specs.declared.Part.{Part}
use Rattle.slices.specs.Refusals.{sound, fault_of}
use Rattle.slices.specs.Extremes.{least}
use Rattle.slices.specs.Scans.{outside, first_outside_of, scan}
use Rattle.slices.proofs.Extremes.{least-before, least-bound, least-is, least-none, least-passes}
use Rattle.slices.proofs.Refusals.{when-sound}

or_left : (s t : Bool) → s || t ≡ false → s ≡ false
or_left true t e = e
or_left false t e = refl

or_right : (s t : Bool) → s || t ≡ false → t ≡ false
or_right true t e = absurd (true≢false e)
or_right false t e = e

-- inside is not outside
pub inside : (low limit x : ℕ) → outside low limit x ≡ false → (low ≤ x) × (x < limit)
inside low limit x e = (ltb-false x low (or_left (ltb x low) (leb limit x) e), leb-false limit x (or_right (ltb x low) (leb limit x) e))

pub not-outside : (low limit x : ℕ) → low ≤ x → x < limit → outside low limit x ≡ false
not-outside low limit x h l = rw (le-ltb x low h, lt-leb limit x l)

from-limit : (low limit x : ℕ) → limit ≤ x → outside low limit x ≡ true
from-limit low limit x h = by (ltb x low) refl
  where
    by : (t : Bool) → ltb x low ≡ t → outside low limit x ≡ true
    by true e = rw e
    by false e = rw (e, le-leb limit x h)

-- a scan that stops at the end passed bytes that are all inside
pub all-inside : (low limit : ℕ) (b : List ℕ) (at count : ℕ) → count ≤ first_outside_of low limit b at count → (k : ℕ) → k < count → (low ≤ get_or b (at + k) 0) × (get_or b (at + k) 0 < limit)
unfolding first_outside_of
all-inside low limit b at count h k l =
    by (outside low limit (get_or b (at + k) 0)) refl
  where
    by : (t : Bool) → outside low limit (get_or b (at + k) 0) ≡ t → (low ≤ get_or b (at + k) 0) × (get_or b (at + k) 0 < limit)
    by true e = absurd (least-before count (λ i. outside low limit (get_or b (at + i) 0)) k (omega arith) e)
    by false e = inside low limit (get_or b (at + k) 0) e

-- a scan refuses nothing exactly if all bytes are inside
module _ (reason : Reason) (part : Part) (low limit : ℕ) (b : List ℕ) (at count : ℕ) where
  pub scan-sound : scan reason part low limit b at count ≡ sound → (k : ℕ) → k < count → (low ≤ get_or b (at + k) 0) × (get_or b (at + k) 0 < limit)
  scan-sound e = all-inside low limit b at count (ltb-false _ count (when-sound _ reason part _ e))

  pub sound-scan : ((k : ℕ) → k < count → (low ≤ get_or b (at + k) 0) × (get_or b (at + k) 0 < limit)) → scan reason part low limit b at count ≡ sound
  unfolding first_outside_of
  sound-scan h = rw (least-none count (λ i. outside low limit (get_or b (at + i) 0)) none, le-ltb count count (omega arith))
    where
      none : (k : ℕ) → k < count → outside low limit (get_or b (at + k) 0) ≡ true → ⊥
      none k l e = true≢false (sym e ∙ not-outside low limit (get_or b (at + k) 0) (h k l).0 (h k l).1)

  -- and it refuses the first that is not
  pub scan-fault : (i : ℕ) → i < count → ((k : ℕ) → k < i → (low ≤ get_or b (at + k) 0) × (get_or b (at + k) 0 < limit)) → limit ≤ get_or b (at + i) 0
      → scan reason part low limit b at count ≡ fault_of reason part (at + i)
  unfolding first_outside_of
  scan-fault i h before here = rw (stops, lt-ltb i count h)
    where
      stops : least count (λ i. outside low limit (get_or b (at + i) 0)) ≡ i
      stops =
          least-is count _ i h (λ k l e. true≢false (sym e ∙ not-outside low limit (get_or b (at + k) 0) (before k l).0 (before k l).1))
          (from-limit low limit (get_or b (at + i) 0) here)

-- the first of a part that is outside, as `position` finds it
module _ (low limit : ℕ) (b : List ℕ) (at count : ℕ) (fits : at + count ≤ length b) where
  part : List ℕ
  part = take count (drop at b)

  first : ℕ
  first = position_or_len (outside low limit) part

  test : ℕ → Bool
  test i = outside low limit (get_or b (at + i) 0)

  long : length part ≡ count
  unfolding part
  long = length-take-le count (drop at b) (omega (arith, length-drop at b))

  tested : (k : ℕ) → k < count → outside low limit (get_or part k 0) ≡ test k
  unfolding part test
  tested k h = ap (outside low limit) (get_or-take count (drop at b) k 0 h ∙ get_or-drop at b k 0)

  is-first : first ≡ least count test
  unfolding first
  is-first =
      position_or_len_is (outside low limit) part (least count test) 0 (omega (arith, long, least-bound count test))
      (λ k h. tested k (omega (arith, h, least-bound count test)) ∙ not-true (test k) (least-before count test k h))
      (λ h. tested (least count test) (omega (arith, h, long)) ∙ least-passes count test (omega (arith, h, long)))
    where
      not-true : (t : Bool) → (t ≡ true → ⊥) → t ≡ false
      not-true true h = absurd (h refl)
      not-true false h = refl

  pub position-first : (r : Option ℕ) → r ≡ position (outside low limit) (take count (drop at b)) → unwrap_or r count ≡ first_outside_of low limit b at count
  unfolding first_outside_of first part test
  position-first r e = by (dec_lt first (length part))
    where
      by : Dec (first < length part) → unwrap_or r count ≡ least count test
      by (yes h) = ap (λ (o : Option ℕ). unwrap_or o count) (e ∙ ap (λ (t : Bool). cond t (Some first) None) (lt-ltb first (length part) h)) ∙ is-first
      by (no h) =
          ap (λ (o : Option ℕ). unwrap_or o count) (e ∙ ap (λ (t : Bool). cond t (Some first) None) (le-ltb first (length part) (omega arith)))
          ∙ omega (arith, h, long, is-first, least-bound count test)
