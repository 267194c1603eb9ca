-- Steps that may depend on the numbers of those before them, read one after the other; and that repetition of such steps, as long as the
-- byte stands that each begins with, is inverse to printing. Assumes nothing.
use Rattle.std.specs.Prelude.{Result, Ok}
use Rattle.slices.specs.declared.Refusal.{Refusal}
use mathlib.Core.Path.{◌≡◌, refl, ap, sym, subst, ◌∙◌}
use mathlib.Core.Bool.{true, false, not, true≢false}
use mathlib.Core.List.{List, [], ◌∷◌, ◌++◌}
use Prim.Native.Nat.{ℕ, zero, suc, ◌+◌, ◌≤◌, ◌<◌}
use native.Mathlib.Omega.{arith}
use native.Mathlib.Numerals.{add-one}
use native.Mathlib.Decide.{ℕ_discrete}
use lib.ListN.{length, length-append}
use Rattle.slices.specs.declared.Part.{Part}
use Rattle.slices.proofs.Extremes.{least-passes}
use Rattle.slices.proofs.Tests.{of-not}
use Rattle.numbers.proofs.Standing.{At, at_left, at_right}
use Rattle.format.specs.Format.{Format, Found, after, stands, reading, printed, Fits, seq, each, chained}
use Rattle.format.specs.Lines.{stops, repeats, repeated}
use Rattle.format.proofs.Results.{chain}
use Rattle.format.proofs.Sequences.{onward, reading-seq, printed-seq, Split, split}
use Rattle.format.proofs.Inverse.{stands-there, Read, reading-was, reading-is}
use Rattle.format.proofs.Going.{repeated-here}

-- steps that do not depend on others
pub each-chained : (m : ℕ) (f : ℕ → Format) → each m f ≡ chained m (λ i vs. f i)
unfolding each chained
each-chained zero f = refl
each-chained (suc m) f = ap (λ (x : Format). seq x (λ vs. f m)) (each-chained m f)

module _ (part : Part) (t : List ℕ) (f : ℕ → List ℕ → Format) (at : ℕ) where
  pub chained-none : reading part t (chained 0 f) at ≡ Ok (record { values = []; next = at })
  unfolding chained reading
  chained-none = refl

  pub chained-next : {w : Found} {r : Result Found Refusal} (i : ℕ) → reading part t (chained i f) at ≡ Ok w → reading part t (f i w.values) w.next ≡ r → reading part t (chained (i + 1) f) at ≡ after w.values r
  unfolding chained
  chained-next {w} {r} i e d =
      ap (λ (k : ℕ). reading part t (chained k f) at) (add-one i)
      ∙ (reading-seq part t (chained i f) (f i) at ∙ (ap (λ (x : Result Found Refusal). chain x (onward part t (f i))) e ∙ ap (after w.values) d))

-- The text of each step begins with the byte c.
abbrev pub Begins : ℕ → (ℕ → List ℕ → Format) → Type 0
Begins c f = (i : ℕ) (vs ws : List ℕ) → Fits (f i vs) ws → (y : List ℕ) × (printed (f i vs) ws ≡ c ∷ y)

module _ (f : ℕ → List ℕ → Format) where
  -- the numbers of m steps and of one more
  pub last_step : (m : ℕ) (vs : List ℕ) → Fits (chained (suc m) f) vs → Split (chained m f) (f m) vs
  unfolding chained
  last_step m vs h = split (chained m f) (f m) vs h

  pub last-text : (m : ℕ) (vs : List ℕ) (s : Split (chained m f) (f m) vs) → printed (chained (suc m) f) vs ≡ printed (chained m f) s.left ++ printed (f m s.left) s.right
  unfolding chained
  last-text m vs s = ap (printed (chained (suc m) f)) s.whole ∙ printed-seq (chained m f) (f m) s.left s.right s.first

  module _ (c : ℕ) (begins : Begins c f) where
    -- the text of some steps begins as that of the first
    pub chained-begins : (m : ℕ) (vs : List ℕ) → Fits (chained (suc m) f) vs → (y : List ℕ) × (printed (chained (suc m) f) vs ≡ c ∷ y)
    unfolding chained printed
    chained-begins zero vs h =
        let s = last_step 0 vs h in
        let p = begins 0 s.left s.right s.second in
        (p.0, last-text 0 vs s ∙ p.1)
    chained-begins (suc m) vs h =
        let s = last_step (suc m) vs h in
        let p = chained-begins m s.left s.first in
        (p.0 ++ printed (f (suc m) s.left) s.right, last-text (suc m) vs s ∙ ap (λ (l : List ℕ). l ++ printed (f (suc m) s.left) s.right) p.1)

    -- there are at least as many bytes as steps
    far : (m : ℕ) (vs : List ℕ) → Fits (chained m f) vs → m ≤ length (printed (chained m f) vs)
    far zero vs h = omega arith
    far (suc m) vs h =
        let s = last_step m vs h in
        let b = begins m s.left s.right s.second in
        omega (arith, far m s.left s.first, ap length (last-text m vs s), length-append (printed (chained m f) s.left) (printed (f m s.left) s.right), ap length b.1)

    module _ (t : List ℕ) (at : ℕ) where
      -- Of m steps the first j: their numbers, and after their text stands the byte that the next one begins with.
      record Front (m j : ℕ) : Type 0 where
        values : List ℕ
        fits : Fits (chained j f) values
        here : At t at (printed (chained j f) values)
        next : j < m → stands t c (at + length (printed (chained j f) values)) ≡ true

      front : (m : ℕ) (vs : List ℕ) → Fits (chained m f) vs → At t at (printed (chained m f) vs) → (j : ℕ) → j ≤ m → Front m j
      front zero vs h a j l =
          let z : 0 ≡ j = omega arith in
          record { values = vs; fits = subst (λ (k : ℕ). Fits (chained k f) vs) z h; here = subst (λ (k : ℕ). At t at (printed (chained k f) vs)) z a; next = λ k. absurd (omega arith) }
      front (suc m) vs h a j l = by (ℕ_discrete j (suc m)) (ℕ_discrete j m) (front m)
        where
          s : Split (chained m f) (f m) vs
          s = last_step m vs h

          both : At t at (printed (chained m f) s.left ++ printed (f m s.left) s.right)
          both = subst (At t at) (last-text m vs s) a

          first : At t at (printed (chained m f) s.left)
          first = at_left t at (printed (chained m f) s.left) (printed (f m s.left) s.right) both

          last : stands t c (at + length (printed (chained m f) s.left)) ≡ true
          last =
              let b = begins m s.left s.right s.second in
              stands-there t b.0 c (at + length (printed (chained m f) s.left))
              (subst (At t (at + length (printed (chained m f) s.left))) b.1 (at_right t at (printed (chained m f) s.left) (printed (f m s.left) s.right) both))

          by : Dec (j ≡ suc m) → Dec (j ≡ m) → ((us : List ℕ) → Fits (chained m f) us → At t at (printed (chained m f) us) → (k : ℕ) → k ≤ m → Front m k) → Front (suc m) j
          by (yes z) d ih = record {
            values = vs;
            fits = subst (λ (k : ℕ). Fits (chained k f) vs) (sym z) h;
            here = subst (λ (k : ℕ). At t at (printed (chained k f) vs)) (sym z) a;
            next = λ k. absurd (omega arith);
          }
          by (no z) (yes e) ih = record {
            values = s.left;
            fits = subst (λ (k : ℕ). Fits (chained k f) s.left) (sym e) s.first;
            here = subst (λ (k : ℕ). At t at (printed (chained k f) s.left)) (sym e) first;
            next = λ k. subst (λ (i : ℕ). stands t c (at + length (printed (chained i f) s.left)) ≡ true) (sym e) last;
          }
          by (no z) (no e) ih =
              let r = ih s.left s.first first j (omega arith) in
              record { values = r.values; fits = r.fits; here = r.here; next = λ k. r.next (omega arith) }

      pub chained-is : (part : Part) (m : ℕ) (vs : List ℕ) → Fits (chained m f) vs → At t at (printed (chained m f) vs) → stands t c (at + length (printed (chained m f) vs)) ≡ false
          → repeated part t c (λ k. chained k f) at ≡ Ok (record { values = vs; next = at + length (printed (chained m f) vs) })
      chained-is part m vs h a stop =
          repeated-here part t c (λ k. chained k f) at m (omega (arith, far m vs h, a.within)) going (ap (stops t c) all ∙ ap not stop) ∙ all
        where
          all : reading part t (chained m f) at ≡ Ok (record { values = vs; next = at + length (printed (chained m f) vs) })
          all = reading-is part t (chained m f) at vs h a

          going : (j : ℕ) → j < m → stops t c (reading part t (chained j f) at) ≡ true → ⊥
          going j l e =
              let r = front m vs h a j (omega arith) in
              true≢false (sym e ∙ (ap (stops t c) (reading-is part t (chained j f) at r.values r.fits r.here) ∙ ap not (r.next l)))

      -- what was read stands there, and no further step begins
      pub chained-was : (part : Part) (w : Found) → at ≤ length t → repeated part t c (λ k. chained k f) at ≡ Ok w → Read t (chained (repeats part t c (λ k. chained k f) at) f) at w
      unfolding repeated
      chained-was part w h e = reading-was part t (chained (repeats part t c (λ k. chained k f) at) f) at w h e

      pub chained-end : (part : Part) (w : Found) → at ≤ length t → repeated part t c (λ k. chained k f) at ≡ Ok w → stands t c w.next ≡ false
      unfolding repeated repeats
      chained-end part w h e = of-not (stands t c w.next) (sym (ap (stops t c) e) ∙ least-passes (length t + 2) (λ k. stops t c (reading part t (chained k f) at)) (omega (arith, few, u.here.within)))
        where
          m : ℕ
          m = repeats part t c (λ k. chained k f) at

          u : Read t (chained m f) at w
          u = chained-was part w h e

          few : m ≤ length (printed (chained m f) w.values)
          few = far m w.values u.fits
