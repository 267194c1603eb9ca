-- What a call leaves behind, by whether the answer slice is long enough. Assumes nothing.
use Rattle.std.specs.Prelude.{Result}
use Rattle.slices.specs.declared.Refusal.{Refusal}
use mathlib.Core.Path.{◌≡◌, ap, sym, ◌∙◌}
use mathlib.Core.Bool.{Bool, cond}
use mathlib.Core.List.{List, [], ◌∷◌}
use Prim.Native.Nat.{ℕ, ◌*◌, ◌≤◌, ◌<◌}
use lib.ListN.{length}
use borrow.Author.Tests.{lt-ltb, le-ltb}
use Rattle.slices.specs.Refusals.{Fault}
use Rattle.slices.specs.Filling.{written, filled, Fills}
use Rattle.answers.specs.Layout.{layout, numbers_of, padded, unless_short, Told, FillTold}

pub short-old : {A : Type 0} (count : ℕ) (answer : List ℕ) (old new : A) → length answer < 8 * count → old ≡ unless_short count answer old new
short-old count answer old new h = ap (λ (t : Bool). cond t old new) (sym (lt-ltb _ _ h))

pub long-new : {A : Type 0} (count : ℕ) (answer : List ℕ) (old new : A) → 8 * count ≤ length answer → new ≡ unless_short count answer old new
long-new count answer old new h = ap (λ (t : Bool). cond t old new) (sym (le-ltb _ _ h))

pub told-short : (count : ℕ) (numbers answer : List ℕ) → length answer < 8 * count → Told count numbers answer answer 0
told-short count numbers answer h = record {
  returned = short-old count answer 0 1 h;
  cells = short-old count answer answer (written (layout (padded count numbers)) answer) h;
}

-- what `tell` ensures, for the numbers that the call says
pub told-long : (count : ℕ) (numbers answer : List ℕ) {stored answer' : List ℕ} {r : ℕ} → 8 * count ≤ length answer
    → stored ≡ padded count numbers
    → (r ≡ 1) × (answer' ≡ written (layout stored) answer)
    → Told count numbers answer answer' r
told-long count numbers answer h s t = record {
  returned = t.0 ∙ long-new count answer 0 1 h;
  cells = t.1 ∙ (ap (λ (ns : List ℕ). written (layout ns) answer) s ∙ long-new count answer answer (written (layout (padded count numbers)) answer) h);
}

-- a call that fills the out slice
module _ (f : Fault) (new out answer : List ℕ) where
  pub fill-short : length answer < 24 → FillTold f new out answer out answer 0
  fill-short h = record { tells = told-short 3 _ answer h; cells = short-old 3 answer out (filled f new out) h }

  pub fill-long : {w : Result ℕ Refusal} {stored out' answer' : List ℕ} {r : ℕ} → 24 ≤ length answer
      → Fills f new out out' w
      → stored ≡ padded 3 (numbers_of (λ n. n ∷ []) w)
      → (r ≡ 1) × (answer' ≡ written (layout stored) answer)
      → FillTold f new out answer out' answer' r
  fill-long h F s t = record {
    tells = told-long 3 _ answer h (s ∙ ap (λ (x : Result ℕ Refusal). padded 3 (numbers_of (λ n. n ∷ []) x)) F.says) t;
    cells = F.cells ∙ long-new 3 answer out (filled f new out) h;
  }
