-- Repetition as a loop reads it: step by step into a lent slice. Assumes nothing.
use Rattle.std.specs.Prelude.{Result, Ok, Err}
use mathlib.Core.Path.{◌≡◌, refl, ap, sym, subst, ◌∙◌}
use mathlib.Core.List.{List, [], ◌∷◌, ◌++◌}
use Prim.Native.Nat.{ℕ, zero, suc, ◌+◌, ◌-◌, ◌≤◌, ◌<◌}
use native.Mathlib.Omega.{arith}
use native.Mathlib.Numerals.{add-one}
use native.Mathlib.Decide.{ℕ_discrete}
use lib.ListN.{length, get_or, take, drop, set, length-append}
use Rattle.slices.specs.declared.Part.{Part}
use Rattle.slices.specs.declared.Refusal.{Refusal}
use Rattle.slices.proofs.Refusals.{never-given, given-was}
use Rattle.slices.specs.Filling.{written}
use Rattle.slices.proofs.Filling.{Begun, begun-none, begun-cell, begun_more}
use Rattle.format.specs.Format.{Format, Found, done, byte, after, reading, each, literal}
use Rattle.format.specs.Steps.{placed, Reads}
use Rattle.format.proofs.Results.{chain}
use Rattle.format.proofs.Sequences.{onward, reading-seq}
use Rattle.format.proofs.Inverse.{Read, reading-was}
use Rattle.format.proofs.Steps.{placed-refused, byte-placed}

module _ (part : Part) (t : List ℕ) (f : ℕ → Format) (at : ℕ) where
  pub each_none : reading part t (each 0 f) at ≡ Ok (record { values = []; next = at })
  unfolding each reading
  each_none = refl

  each-suc : (i : ℕ) → reading part t (each (suc i) f) at ≡ chain (reading part t (each i f) at) (onward part t (λ vs. f i))
  unfolding each
  each-suc i = reading-seq part t (each i f) (λ vs. f i) at

  pub each_next : {w : Found} {r : Result Found Refusal} (i : ℕ) → reading part t (each i f) at ≡ Ok w → reading part t (f i) w.next ≡ r → reading part t (each (i + 1) f) at ≡ after w.values r
  each_next {w} {r} i e d =
      ap (λ (k : ℕ). reading part t (each k f) at) (add-one i)
      ∙ (each-suc i ∙ (ap (λ (x : Result Found Refusal). chain x (onward part t (λ vs. f i))) e ∙ ap (after w.values) d))

  -- a step that is refused refuses the whole
  pub each-refused : {x : Refusal} (i m : ℕ) → i ≤ m → reading part t (each i f) at ≡ Err x → reading part t (each m f) at ≡ Err x
  each-refused {x} i zero h e = let z : i ≡ 0 = omega arith in subst (λ (k : ℕ). reading part t (each k f) at ≡ Err x) z e
  each-refused {x} i (suc m) h e = by (ℕ_discrete i (suc m)) (each-refused i m)
    where
      by : Dec (i ≡ suc m) → (i ≤ m → reading part t (each i f) at ≡ Err x → reading part t (each m f) at ≡ Err x) → reading part t (each (suc m) f) at ≡ Err x
      by (yes z) ih = subst (λ (k : ℕ). reading part t (each k f) at ≡ Err x) z e
      by (no z) ih = each-suc m ∙ ap (λ (r : Result Found Refusal). chain r (onward part t (λ vs. f m))) (ih (omega arith) e)

-- Of m steps i were read, to the place p; their w numbers are at the start of the slice.
pub record Partly (part : Part) (t : List ℕ) (f : ℕ → Format) (m at : ℕ) (old new : List ℕ) (p w i : ℕ) : Type 0 where
  pub values : List ℕ
  pub says : reading part t (each i f) at ≡ Ok (record { values = values; next = p })
  pub begun : Begun values old new
  pub long : length values ≡ w
  pub upto : i ≤ m
  pub inside : p ≤ length t

pub partly_none : (part : Part) (t : List ℕ) (f : ℕ → Format) (m at : ℕ) (old : List ℕ) → at ≤ length t → Partly part t f m at old old at 0 0
partly_none part t f m at old h = record { values = []; says = each_none part t f at; begun = begun-none old; long = refl; upto = omega arith; inside = h }

module _ {part : Part} {t : List ℕ} {f : ℕ → Format} {m at : ℕ} {old new : List ℕ} {p w i : ℕ} (s : Partly part t f m at old new p w i) where
  -- what a step finds is there
  pub step-was : {g : Found} → reading part t (f i) p ≡ Ok g → Read t (f i) p g
  step-was {g} e = reading-was part t (f i) p g s.inside e

  pub partly_more : {g : Found} {after : List ℕ} {u : ℕ} → i < m → reading part t (f i) p ≡ Ok g → Begun (s.values ++ g.values) old after → u ≡ w + length g.values
      → Partly part t f m at old after g.next u (i + 1)
  partly_more {g} h e b l = record {
    values = s.values ++ g.values;
    says = each_next part t f at i s.says e;
    begun = b;
    long = length-append s.values g.values ∙ omega (arith, s.long, l);
    upto = omega arith;
    inside = let r = step-was e in omega (arith, r.next, r.here.within);
  }

  -- a row that is lent the slice from w on
  pub partly-row : {g : Found} (last : List ℕ) {k : ℕ} → i < m → reading part t (f i) p ≡ Ok g → k ≡ length g.values → w + k ≤ length old → last ≡ written g.values (take (length new - w) (drop w new))
      → Partly part t f m at old (take w new ++ (last ++ drop (length new - w) (drop w new))) g.next (w + k) (i + 1)
  partly-row {g} last h e l r d = partly_more h e (begun_more g.values last s.begun s.long (omega arith) d) (omega arith)

  pub partly-refused : {x : Refusal} {last : List ℕ} {r : Result ℕ Refusal} → i < m → reading part t (f i) p ≡ Err x → r ≡ Err x → length last ≡ length old → Reads (reading part t (each m f) at) old last r
  partly-refused {x} {last} {r} h e d l = record { says = d ∙ ap placed (sym q); same = l; cells = λ w k. absurd (never-given (sym q ∙ k)) }
    where
      q : reading part t (each m f) at ≡ Err x
      q = each-refused part t f at (i + 1) m (omega arith) (each_next part t f at i s.says e)

  pub partly-all : {r : Result ℕ Refusal} → m ≤ i → r ≡ Ok p → Reads (reading part t (each m f) at) old new r
  partly-all {r} h d = record {
    says = d ∙ ap placed (sym q);
    same = s.begun.same;
    cells = λ w k. s.begun.cells ∙ ap (λ (g : Found). written g.values old) (given-was (sym q ∙ k));
  }
    where
      e : m ≡ i
      e = omega (arith, s.upto)

      q : reading part t (each m f) at ≡ Ok (record { values = s.values; next = p })
      q = ap (λ (k : ℕ). reading part t (each k f) at) e ∙ s.says

-- a cell of a row
pub partly-cell : {part : Part} {t : List ℕ} {f : ℕ → Format} {m at : ℕ} {old new : List ℕ} {p i : ℕ} (s : Partly part t f m at old new p i i) {v e : ℕ} (x : ℕ)
    → i < m → i < length old → reading part t (f i) p ≡ Ok (record { values = v ∷ []; next = e }) → x ≡ v → Partly part t f m at old (set new i x) e (i + 1) (i + 1)
partly-cell {old = old} {new = new} {i = i} s x h l d q =
    partly_more s h d (subst (λ (y : ℕ). Begun (s.values ++ (y ∷ [])) old (set new i x)) q (begun-cell x s.begun s.long l)) refl

-- a fixed text, byte by byte
module _ (part : Part) (t x : List ℕ) (at p i : ℕ) (s : reading part t (each i (λ j. byte (get_or x j 0) done)) at ≡ Ok (record { values = []; next = p })) where
  pub literal-next : {e : ℕ} → placed (reading part t (byte (get_or x i 0) done) p) ≡ Ok e → reading part t (each (i + 1) (λ j. byte (get_or x j 0) done)) at ≡ Ok (record { values = []; next = e })
  literal-next d = each_next part t (λ j. byte (get_or x j 0) done) at i s (byte-placed part t (get_or x i 0) p d)

  pub literal-refused : {r : Refusal} → i < length x → placed (reading part t (byte (get_or x i 0) done) p) ≡ Err r → placed (reading part t (literal x) at) ≡ Err r
  literal-refused h d =
      ap placed (each-refused part t (λ j. byte (get_or x j 0) done) at (i + 1) (length x) (omega arith) (each_next part t (λ j. byte (get_or x j 0) done) at i s (placed-refused (reading part t (byte (get_or x i 0) done) p) d)))

  pub literal-all : i ≤ length x → length x ≤ i → placed (reading part t (literal x) at) ≡ Ok p
  literal-all l h = let e : length x ≡ i = omega arith in ap (λ (k : ℕ). placed (reading part t (each k (λ j. byte (get_or x j 0) done)) at)) e ∙ ap placed s
