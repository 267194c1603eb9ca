-- Formats without numbers: a fixed text, alone and before other formats. Assumes nothing.
use mathlib.Core.Path.{◌≡◌, refl, ap, sym, subst, ◌∙◌}
use mathlib.Core.List.{List, [], ◌∷◌, ◌++◌}
use Prim.Native.Nat.{ℕ, ◌<◌}
use native.Mathlib.Omega.{arith}
use lib.ListN.{length, get_or}
use Rattle.slices.specs.Tables.{rows}
use Rattle.slices.proofs.Tables.{tab-get_or, rows-until}
use Rattle.format.specs.Format.{Format, done, byte, printed, Fits, seq, literal}
use Rattle.format.proofs.Sequences.{fits-seq, printed-seq, split, fits_each, printed-each}
use Rattle.format.proofs.Rows.{rows-singles, rows-was}

-- f has no numbers, and its text is x.
pub record Fixed (f : Format) (x : List ℕ) : Type 0 where
  pub fits : Fits f []
  pub none : (vs : List ℕ) → Fits f vs → vs ≡ []
  pub text : printed f [] ≡ x

rows_empty : (m : ℕ) (g : ℕ → List ℕ) → ((i : ℕ) → i < m → g i ≡ []) → rows m g ≡ []
unfolding rows
rows_empty m g e = rows-until 0 m g (omega arith) (λ i h l. e i l)

module _ (x : List ℕ) where
  step : ℕ → Format
  step i = byte (get_or x i 0) done

  step_fits : (i : ℕ) → i < length x → Fits (step i) []
  unfolding Fits step
  step_fits i l = tt

  step-none : (i : ℕ) (vs : List ℕ) → Fits (step i) vs → vs ≡ []
  unfolding Fits step
  step-none i [] h = refl
  step-none i (v ∷ vs) h = absurd h

  empty : rows (length x) (λ i. []) ≡ []
  empty = rows_empty (length x) (λ i. []) (λ i l. refl)

  pub fixed-literal : Fixed (literal x) x
  unfolding step printed
  fixed-literal = record {
    fits = subst (Fits (literal x)) empty (fits_each (length x) step (λ i. []) step_fits);
    none = λ vs h. let r = rows-was (length x) step vs h in r.whole ∙ rows_empty (length x) r.part (λ i l. step-none i (r.part i) (r.fits i l));
    text = ap (printed (literal x)) (sym empty) ∙ (printed-each (length x) step (λ i. []) step_fits ∙ (rows-singles (length x) (λ i. get_or x i 0) ∙ tab-get_or x));
  }

-- before another format
module _ {f : Format} {x : List ℕ} (a : Fixed f x) (g : List ℕ → Format) where
  pub then-fits : (us : List ℕ) → Fits (g []) us → Fits (seq f g) us
  then-fits us h = fits-seq f g [] us a.fits h

  pub then-was : (us : List ℕ) → Fits (seq f g) us → Fits (g []) us
  then-was us h =
      let s = split f g us h in
      let e = a.none s.left s.first in
      let w : us ≡ s.right = s.whole ∙ ap (λ (l : List ℕ). l ++ s.right) e in
      subst (Fits (g [])) (sym w) (subst (λ (l : List ℕ). Fits (g l) s.right) e s.second)

  pub then-text : (us : List ℕ) → printed (seq f g) us ≡ x ++ printed (g []) us
  then-text us = printed-seq f g [] us a.fits ∙ ap (λ (l : List ℕ). l ++ printed (g []) us) a.text

pub fixed-seq : {f g : Format} {x y : List ℕ} → Fixed f x → Fixed g y → Fixed (seq f (λ vs. g)) (x ++ y)
fixed-seq {f} {g} {x} {y} a b = record {
  fits = then-fits a (λ vs. g) [] b.fits;
  none = λ vs h. b.none vs (then-was a (λ vs. g) vs h);
  text = then-text a (λ vs. g) [] ∙ ap (λ (l : List ℕ). x ++ l) b.text;
}
