-- Reading as the code goes: step by step, and what was read where nothing is refused. Assumes nothing.
use Rattle.slices.specs.declared.Reason.TheVariants.{EmptyLoop, OffLayout}
use Rattle.std.specs.Prelude.{Result, Ok, Err}
use mathlib.Core.Path.{◌≡◌, ap, sym, subst, ◌∙◌}
use mathlib.Core.List.{List}
use Prim.Native.Nat.{ℕ, ◌≤◌}
use native.Mathlib.Omega.{arith}
use lib.ListN.{length}
use borrow.Author.Tests.{eq-eqb, ne_eqb}
use Rattle.slices.specs.declared.Part.{Part}
use Rattle.slices.specs.declared.Refusal.{Refusal}
use Rattle.slices.proofs.Refusals.{never-given}
use Rattle.fdfa.specs.Family.{Words}
use Rattle.numbers.specs.Storing.{Stored}
use Rattle.format.specs.Format.{Found, reading, literal}
use Rattle.format.specs.Lines.{lines_at, LinesRead}
use Rattle.format.specs.Steps.{placed}
use Rattle.format.proofs.Inverse.{reading-was}
use Rattle.format.proofs.LinesInverse.{lines-was}
use Rattle.format.proofs.Steps.{placed-refused, placed-given}
use Rattle.format.proofs.Lined.{lines-refused, lines-counted, Closed, closing-was}
use Rattle.lasso_text.specs.declared.Lengths.{Lengths}
use Rattle.format.specs.declared.Extent.{Extent}
use Rattle.lasso_text.specs.Text.{title, prefix_name}
use Rattle.lasso_text.specs.Reading.{letter, ended, opened, named, words_of}
use Rattle.lasso_text.specs.Steps.{measured, WordsRead, PeriodRead}

-- where the text ends, and whether it has lines of the period
module _ (part : Part) (t u v : List ℕ) (at : ℕ) where
  pub ended-other : (at ≡ length t → ⊥) → ended part t u (Ok (record { values = v; next = at })) ≡ Err (record { reason = OffLayout; part = part; place = at })
  ended-other h = rw (ne_eqb at (length t) h)

  pub ended-none : at ≡ length t → length v ≡ 0 → ended part t u (Ok (record { values = v; next = at })) ≡ Err (record { reason = EmptyLoop; part = part; place = length t })
  ended-none h e = rw (eq-eqb at (length t) h, eq-eqb (length v) 0 e)

  pub ended-all : at ≡ length t → (length v ≡ 0 → ⊥) → ended part t u (Ok (record { values = v; next = at })) ≡ Ok (record { prefix = u; period = v })
  ended-all h e = rw (eq-eqb at (length t) h, ne_eqb (length v) 0 e)

-- What was read where the lines of the period are x.
pub ended-was : (part : Part) (t u : List ℕ) (x : Result Found Refusal) {w : Words} → ended part t u x ≡ Ok w → Closed t (λ v. record { prefix = u; period = v }) x w
ended-was part t u x e = closing-was part t EmptyLoop (λ v. record { prefix = u; period = v }) x e

-- the line of names
module _ (s : ℕ) (part : Part) (t : List ℕ) {x : Result ℕ Refusal} (d : x ≡ placed (reading part t (literal title) 0)) where
  pub title-refused : {r : Refusal} → x ≡ Err r → words_of s part t ≡ Err r
  unfolding words_of
  title-refused e = ap (named s part t) (placed-refused (reading part t (literal title) 0) (sym d ∙ e))

  pub title-read : {e : ℕ} → x ≡ Ok e → (words_of s part t ≡ opened s part t (lines_at part t prefix_name (letter s) e)) × (e ≤ length t)
  unfolding words_of
  title-read {e} n =
      let g = placed-given (reading part t (literal title) 0) (sym d ∙ n) in
      let w = reading-was part t (literal title) 0 g.0 (omega arith) g.1 in (
        ap (named s part t) g.1 ∙ ap (λ (k : ℕ). opened s part t (lines_at part t prefix_name (letter s) k)) g.2,
        omega (arith, g.2, w.next, w.here.within),
      )

-- the lines of the prefix
module _ (s : ℕ) (part : Part) (t : List ℕ) (at : ℕ) {o o' : List ℕ} {x : Result Extent Refusal} (d : LinesRead (lines_at part t prefix_name (letter s) at) o o' x) where
  pub prefix-refused : {r : Refusal} → x ≡ Err r → opened s part t (lines_at part t prefix_name (letter s) at) ≡ Err r
  prefix-refused e = ap (opened s part t) (lines-refused (lines_at part t prefix_name (letter s) at) (sym d.says ∙ e))

  pub prefix-read : {n p : ℕ} → at ≤ length t → x ≡ Ok (record { count = n; next = p })
      → (w : Found) × (lines_at part t prefix_name (letter s) at ≡ Ok w) × (length w.values ≡ n) × (w.next ≡ p) × (p ≤ length t)
  prefix-read h e =
      let c = lines-counted (lines_at part t prefix_name (letter s) at) (sym d.says ∙ e) in
      let w = lines-was part t prefix_name (letter s) at c.0 h c.1 in
      (c.0, c.1, c.2, c.3, omega (arith, c.3, w.next, w.here.within))

-- the lines of the period
module _ (part : Part) (t : List ℕ) {x : Result Found Refusal} (m : ℕ) {p p' : List ℕ} {l : Result Extent Refusal} (d : LinesRead x p p' l) where
  pub period-refused : {r : Refusal} → l ≡ Err r → PeriodRead part t x m p p' (Err r)
  period-refused e = record {
    says = λ u h. ap (λ (y : Result Found Refusal). measured (ended part t u y)) (sym (lines-refused x (sym d.says ∙ e)));
    same = d.same;
    cells = d.cells;
  }

  pub period-read : {n e : ℕ} {r : Result Lengths Refusal} → l ≡ Ok (record { count = n; next = e })
      → ((u v : List ℕ) → length u ≡ m → length v ≡ n → r ≡ measured (ended part t u (Ok (record { values = v; next = e })))) → PeriodRead part t x m p p' r
  period-read {n} {e} k f =
      let c = lines-counted x (sym d.says ∙ k) in
      record {
        says = λ u h. f u c.0.values h c.2 ∙ ((λ i. measured (ended part t u (Ok (record { values = c.0.values; next = sym c.3 i })))) ∙ ap (λ (y : Result Found Refusal). measured (ended part t u y)) (sym c.1));
        same = d.same;
        cells = d.cells;
      }

-- a text that is refused
pub words-refused : {x : Result Words Refusal} {o p o' p' : List ℕ} {r : Refusal} → x ≡ Err r → length o' ≡ length o → length p' ≡ length p → WordsRead x o p o' p' (Err r)
words-refused e h k = record {
  says = ap measured (sym e);
  same_opening = h;
  same_period = k;
  opening = λ w d. absurd (never-given (sym e ∙ d));
  period = λ w d. absurd (never-given (sym e ∙ d));
}

-- both parts
pub words-read : (part : Part) (t : List ℕ) {x : Result Words Refusal} {y z : Result Found Refusal} (w : Found) {o p o' p' : List ℕ} {l : Result Extent Refusal} {m : ℕ} {r : Result Lengths Refusal} → x ≡ ended part t w.values z → y ≡ Ok w
    → LinesRead y o o' l → length w.values ≡ m → PeriodRead part t z m p p' r → WordsRead x o p o' p' r
words-read part t {x} {y} {z} w {o} {p} {o'} {p'} e d a n b = record {
  says = b.says w.values n ∙ ap measured (sym e);
  same_opening = a.same;
  same_period = b.same;
  opening = λ k q.
      let f = ended-was part t w.values z (sym e ∙ q) in
      subst (λ (c : Words). Stored o 0 c.prefix o' (length c.prefix)) (sym f.answer) (a.cells w d);
  period = λ k q.
      let f = ended-was part t w.values z (sym e ∙ q) in
      subst (λ (c : Words). Stored p 0 c.period p' (length c.period)) (sym f.answer) (b.cells f.found f.says);
}
