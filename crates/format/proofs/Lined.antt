-- Repetition without a known count, as a loop reads it. Assumes nothing.
use Rattle.slices.specs.declared.Reason.{Reason}
use Rattle.slices.specs.declared.Reason.TheVariants.{OffLayout}
use Rattle.std.specs.Prelude.{Result, Ok, Err}
use Rattle.format.specs.declared.Extent.{Extent}
use mathlib.Core.Path.{◌≡◌, refl, ap, sym, subst, ◌∙◌}
use mathlib.Core.Bool.{Bool, true, false, cond}
use mathlib.Core.List.{List, [], ◌∷◌, ◌++◌}
use Prim.Native.Nat.{ℕ, ◌+◌, ◌≤◌, ◌<◌}
use native.Mathlib.Omega.{arith}
use lib.Dec.{eqb}
use lib.ListN.{length, get_or, length-append}
use borrow.Author.Tests.{eqb-true, eqb-false}
use Rattle.slices.specs.declared.Part.{Part}
use Rattle.slices.specs.declared.Refusal.{Refusal}
use Rattle.slices.proofs.Refusals.{never-given, given-was, mapped-given, mapped-refused}
use Rattle.numbers.specs.Numerals.{number_at_value}
use Rattle.numbers.specs.Storing.{Stored}
use Rattle.numbers.proofs.Stores.{stored-none, stored-then, stored-length}
use Rattle.format.specs.declared.Column.{Column}
use Rattle.format.specs.Format.{Format, Found, after, refused_at, stands, reading, printed, Takes, Fits, seq, literal}
use Rattle.format.specs.Rows.{choice, cell}
use Rattle.format.specs.Lines.{labelled, lines, lines_at, closing, extent, LinesRead}
use Rattle.format.specs.Steps.{peeked}
use Rattle.format.proofs.Results.{chain}
use Rattle.format.proofs.Sequences.{onward, reading-seq}
use Rattle.format.proofs.Inverse.{Read, reading-was}
use Rattle.format.proofs.Steps.{choice-peeked}
use Rattle.format.proofs.Fixed.{fixed-literal, then-was, then-text}
use Rattle.format.proofs.Repeating.{each_none, each_next}
use Rattle.format.proofs.Going.{Going, going-none, going_more, going-all, going-refused}

-- the text of a word and a number
pub labelled-text : (word vs : List ℕ) (c : ℕ → Column) (end : ℕ) → printed (labelled word c end) vs ≡ word ++ printed (choice c end) vs
unfolding labelled
labelled-text word vs c end = then-text (fixed-literal word) (λ us. choice c end) vs

-- its column is the one chosen by peeking at the number
labelled-peeked : (part : Part) (t word : List ℕ) (c : ℕ → Column) (end at : ℕ) → at ≤ length t
    → reading part t (labelled word c end) at ≡ reading part t (labelled word (λ v. c (peeked (number_at_value part t (at + length word)))) end) at
unfolding labelled
labelled-peeked part t word c end at h =
    reading-seq part t (literal word) (λ vs. choice c end) at ∙ (by (reading part t (literal word) at) refl ∙ sym (reading-seq part t (literal word) (λ vs. cell one end) at))
  where
    one : Column
    one = c (peeked (number_at_value part t (at + length word)))

    by : (x : Result Found Refusal) → reading part t (literal word) at ≡ x → chain x (onward part t (λ vs. choice c end)) ≡ chain x (onward part t (λ vs. cell one end))
    by (Err r) e = refl
    by (Ok w) e =
        let r = reading-was part t (literal word) at w h e in
        let none = (fixed-literal word).none w.values r.fits in
        let text : printed (literal word) w.values ≡ word = ap (printed (literal word)) none ∙ (fixed-literal word).text in
        let next : w.next ≡ at + length word = r.next ∙ ap (λ (l : List ℕ). at + length l) text in
        ap (after w.values) (choice-peeked part t c end w.next ∙ ap (λ (n : ℕ). reading part t (cell (c (peeked (number_at_value part t n))) end) w.next) next)

module _ (part : Part) (t word : List ℕ) (c : ℕ → Column) (end at : ℕ) where
  chosen : {column : Column} → at ≤ length t → column ≡ c (peeked (number_at_value part t (at + length word))) → reading part t (labelled word (λ v. column) end) at ≡ reading part t (labelled word c end) at
  chosen h e = ap (λ (k : Column). reading part t (labelled word (λ v. k) end) at) e ∙ sym (labelled-peeked part t word c end at h)

  pub labelled-chosen : {column : Column} {y : Result Found Refusal} → at ≤ length t → column ≡ c (peeked (number_at_value part t (at + length word)))
      → y ≡ reading part t (labelled word (λ v. column) end) at → y ≡ reading part t (labelled word c end) at
  labelled-chosen h e d = d ∙ chosen h e

  -- and what follows
  pub chosen-then : {column : Column} {y : Result Found Refusal} (g : List ℕ → Format) → at ≤ length t → column ≡ c (peeked (number_at_value part t (at + length word)))
      → y ≡ reading part t (seq (labelled word (λ v. column) end) g) at → y ≡ reading part t (seq (labelled word c end) g) at
  chosen-then {column} g h e d =
      d
      ∙ (reading-seq part t (labelled word (λ v. column) end) g at
      ∙ (ap (λ (x : Result Found Refusal). chain x (onward part t g)) (chosen h e) ∙ sym (reading-seq part t (labelled word c end) g at)))

-- i lines were read, to the place p; their numbers are stored.
pub record Lined (part : Part) (t word : List ℕ) (c : Column) (at : ℕ) (old new : List ℕ) (p i : ℕ) : Type 0 where
  pub values : List ℕ
  pub going : Going part t (get_or word 0 0) (lines word c) at i p values
  pub stored : Stored old 0 values new i

pub lined-none : (part : Part) (t word : List ℕ) (c : Column) (at : ℕ) (old : List ℕ) → at ≤ length t → Lined part t word c at old old at 0
lined-none part t word c at old h = record {
  values = [];
  going = going-none part t (get_or word 0 0) (lines word c) at h (each_none part t (λ j. labelled word (λ v. c) 10) at);
  stored = stored-none old 0;
}

module _ {part : Part} {t word : List ℕ} {c : Column} {at : ℕ} {old new : List ℕ} {p i : ℕ} (s : Lined part t word c at old new p i) where
  abbrev line : Format
  line = labelled word (λ v. c) 10

  line-was : {w : Found} → reading part t line p ≡ Ok w → Read t line p w
  line-was {w} e = reading-was part t line p w s.going.inside e

  pub line-takes : {v e : ℕ} → reading part t (labelled word (λ v. c) 10) p ≡ Ok (record { values = v ∷ []; next = e }) → Takes c 10 v
  unfolding labelled Fits
  line-takes {v} d = (then-was (fixed-literal word) (λ us. cell c 10) (v ∷ []) (line-was d).fits).0

  pub lined-more : {v e : ℕ} {next : List ℕ} {r : ℕ} → 0 < length word → stands t (get_or word 0 0) p ≡ true → reading part t (labelled word (λ v. c) 10) p ≡ Ok (record { values = v ∷ []; next = e }) → Stored new i (v ∷ []) next r
      → Lined part t word c at old next e r
  lined-more {v} {e} {next} {r} h g d x = subst (Lined part t word c at old next e) (sym x.next) (record {
    values = s.values ++ (v ∷ []);
    going = going_more s.going g (each_next part t (λ j. line) at i s.going.says d) (omega (arith, w.next, ap length (labelled-text word (v ∷ []) (λ u. c) 10), length-append word (printed (cell c 10) (v ∷ [])))) (omega (arith, w.next, w.here.within));
    stored = record { cells = (stored-then s.values (v ∷ []) s.stored x).cells; next = omega (arith, s.stored.next, length-append s.values (v ∷ [])) };
  })
    where
      w : Read t line p (record { values = v ∷ []; next = e })
      w = line-was d

  -- where the next one does not begin
  pub lined-all : {r : Result Extent Refusal} → stands t (get_or word 0 0) p ≡ false → r ≡ Ok (record { count = i; next = p }) → LinesRead (lines_at part t word c at) old new r
  lined-all {r} g d = record {
    says = d ∙ (ap (λ (n : ℕ). Ok (record { count = n; next = p })) count ∙ ap extent (sym all));
    same = stored-length s.stored;
    cells = λ w k. subst (λ (z : Found). Stored old 0 z.values new (length z.values)) (given-was (sym all ∙ k)) (subst (Stored old 0 s.values new) count s.stored);
  }
    where
      count : i ≡ length s.values
      count = omega (arith, s.stored.next)

      all : lines_at part t word c at ≡ Ok (record { values = s.values; next = p })
      all = going-all s.going g

  pub lined-refused : {x : Refusal} {last : List ℕ} {r : Result Extent Refusal} → stands t (get_or word 0 0) p ≡ true → reading part t (labelled word (λ v. c) 10) p ≡ Err x → r ≡ Err x → length last ≡ length old → LinesRead (lines_at part t word c at) old last r
  lined-refused {x} {last} {r} g e d l = record { says = d ∙ ap extent (sym all); same = l; cells = λ w k. absurd (never-given (sym all ∙ k)) }
    where
      all : lines_at part t word c at ≡ Err x
      all = going-refused s.going g (each_next part t (λ j. line) at i s.going.says e)

-- what the lines were, from what is said of them
abbrev counts : Found → Extent
counts w = record { count = length w.values; next = w.next }

pub lines-refused : (x : Result Found Refusal) {r : Refusal} → extent x ≡ Err r → x ≡ Err r
lines-refused x e = mapped-refused counts x e

pub lines-counted : (x : Result Found Refusal) {n p : ℕ} → extent x ≡ Ok (record { count = n; next = p }) → (w : Found) × (x ≡ Ok w) × (length w.values ≡ n) × (w.next ≡ p)
lines-counted x e = let g = mapped-given counts x e in (g.0, g.1, ap (λ (z : Extent). z.count) g.2, ap (λ (z : Extent). z.next) g.2)

-- What the last lines x were, where the text ends with some, and b is the answer that they were turned into.
pub record Closed {B : Type 0} (t : List ℕ) (f : List ℕ → B) (x : Result Found Refusal) (b : B) : Type 0 where
  pub found : Found
  pub says : x ≡ Ok found
  pub answer : b ≡ f found.values
  pub end : found.next ≡ length t
  pub some : length found.values ≡ 0 → ⊥

pub closing-was : {B : Type 0} (part : Part) (t : List ℕ) (reason : Reason) (f : List ℕ → B) (x : Result Found Refusal) {b : B} → closing part t reason f x ≡ Ok b → Closed t f x b
closing-was part t reason f (Err r) e = absurd (never-given e)
closing-was {B} part t reason f (Ok w) {b} e = by (eqb w.next (length t)) refl (eqb (length w.values) 0) refl e
  where
    by : (p : Bool) → eqb w.next (length t) ≡ p → (q : Bool) → eqb (length w.values) 0 ≡ q
        → cond {A = Result B Refusal} p (cond q (refused_at reason part (length t)) (Ok (f w.values))) (refused_at OffLayout part w.next) ≡ Ok b → Closed t f (Ok w) b
    by false d q g k = absurd (never-given k)
    by true d true g k = absurd (never-given k)
    by true d false g k = record { found = w; says = refl; answer = sym (given-was k); end = eqb-true w.next (length t) d; some = eqb-false (length w.values) 0 g }
