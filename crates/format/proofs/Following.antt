-- One format after another, as the code reads them: after a fixed text, and after numbers that are at the start of a slice. Assumes nothing.
use Rattle.std.specs.Prelude.{Result, Ok, Err}
use mathlib.Core.Path.{◌≡◌, refl, ap, sym, subst, ◌∙◌}
use mathlib.Core.List.{List, [], ◌∷◌, ◌++◌}
use Prim.Native.Nat.{ℕ, ◌-◌, ◌≤◌, ◌<◌}
use native.Mathlib.Omega.{arith}
use lib.ListN.{length, get_or, take, drop, length-append}
use borrow.Rule.Slice.PartMut.{same_len_mid}
use Rattle.slices.specs.declared.Part.{Part}
use Rattle.slices.specs.declared.Refusal.{Refusal}
use Rattle.slices.proofs.Refusals.{never-given}
use Rattle.numbers.specs.declared.Number.{Number}
use Rattle.slices.specs.Filling.{written}
use Rattle.slices.proofs.Tables.{get_or-first}
use Rattle.slices.proofs.Filling.{Begun, begun_more, written-front}
use Rattle.format.specs.Format.{Format, Found, after, reading, Fits, seq}
use Rattle.format.specs.Steps.{placed, cell_says, Reads}
use Rattle.format.proofs.Results.{chain, after_none, after_was}
use Rattle.format.proofs.Sequences.{onward, reading-seq}
use Rattle.format.proofs.Inverse.{reading-was}
use Rattle.format.proofs.Steps.{placed-refused, placed-given}
use Rattle.format.proofs.Fixed.{Fixed}

pub reads-refused : {old new : List ℕ} {x : Result Found Refusal} {r : Refusal} → length new ≡ length old → x ≡ Err r → Reads x old new (Err r)
reads-refused l e = record { says = ap placed (sym e); same = l; cells = λ w d. absurd (never-given (sym e ∙ d)) }

pub reads_as : {x y : Result Found Refusal} {old new : List ℕ} {r : Result ℕ Refusal} → x ≡ y → Reads y old new r → Reads x old new r
reads_as {old = old} {new = new} {r = r} e h = subst (λ (z : Result Found Refusal). Reads z old new r) (sym e) h

placed-after : (d : List ℕ) (x : Result Found Refusal) → placed (after d x) ≡ placed x
placed-after d (Ok w) = refl
placed-after d (Err r) = refl

module _ (part : Part) (t : List ℕ) (f : Format) (at : ℕ) where
  read-within : {w : Found} → at ≤ length t → reading part t f at ≡ Ok w → w.next ≤ length t
  read-within {w} h e = let r = reading-was part t f at w h e in omega (arith, r.next, r.here.within)

  module _ (g : List ℕ → Format) where
    -- a part that reads as something else
    seq-is : {r : Result Found Refusal} → reading part t f at ≡ r → reading part t (seq f g) at ≡ chain r (onward part t g)
    seq-is e = reading-seq part t f g at ∙ ap (λ (r : Result Found Refusal). chain r (onward part t g)) e

    pub seq-refused : {x : Refusal} → reading part t f at ≡ Err x → reading part t (seq f g) at ≡ Err x
    seq-refused e = seq-is e

    pub seq-as : (k : Format) (to : ℕ) → reading part t f at ≡ reading part t k to → reading part t (seq f g) at ≡ reading part t (seq k g) to
    seq-as k to e = seq-is e ∙ sym (reading-seq part t k g to)

-- A step that reads a fixed text, and what follows it.
module _ (part : Part) (t : List ℕ) {x : List ℕ} {f : Format} (a : Fixed f x) (g : List ℕ → Format) (at : ℕ) {s : Result ℕ Refusal} (d : s ≡ placed (reading part t f at)) where
  pub step-refused : {r : Refusal} → s ≡ Err r → reading part t (seq f g) at ≡ Err r
  step-refused e = seq-refused part t f at g (placed-refused (reading part t f at) (sym d ∙ e))

  module _ {e : ℕ} (h : at ≤ length t) (n : s ≡ Ok e) where
    found : (w : Found) × (reading part t f at ≡ Ok w) × (w.next ≡ e)
    found = placed-given (reading part t f at) (sym d ∙ n)

    pub step-within : e ≤ length t
    step-within = subst (λ (m : ℕ). m ≤ length t) found.2 (read-within part t f at h found.1)

    none : found.0.values ≡ []
    none = a.none found.0.values (reading-was part t f at found.0 h found.1).fits

    pub step-read : reading part t f at ≡ Ok (record { values = []; next = e })
    step-read = found.1 ∙ (λ i. Ok (record { values = none i; next = found.2 i }))

    pub step_given : reading part t (seq f g) at ≡ reading part t (g []) e
    step_given = seq-is part t f at g step-read ∙ sym (after_none (reading part t (g []) e))

-- A cell that was read, and what follows it.
module _ (part : Part) (t : List ℕ) (f : Format) (at : ℕ) {x : Result Number Refusal} (d : cell_says x ≡ reading part t f at) where
  pub cell-within : {v e : ℕ} → at ≤ length t → x ≡ Ok (record { value = v; next = e }) → e ≤ length t
  cell-within h k = read-within part t f at h (sym d ∙ ap cell_says k)

  module _ (g : List ℕ → Format) where
    pub cell-lost : {r : Refusal} → x ≡ Err r → reading part t (seq f g) at ≡ Err r
    cell-lost k = seq-refused part t f at g (sym d ∙ ap cell_says k)

    pub cell-got : {v e : ℕ} → x ≡ Ok (record { value = v; next = e }) → reading part t (seq f g) at ≡ after (v ∷ []) (reading part t (g (v ∷ [])) e)
    cell-got k = seq-is part t f at g (sym d ∙ ap cell_says k)

-- Numbers that were read to the start of a slice, up to the place e.
pub record Got (part : Part) (t : List ℕ) (f : Format) (at : ℕ) (old new : List ℕ) (e : ℕ) : Type 0 where
  pub found : Found
  pub says : reading part t f at ≡ Ok found
  pub next : found.next ≡ e
  pub fits : Fits f found.values
  pub begun : Begun found.values old new
  pub inside : e ≤ length t

module _ (part : Part) (t : List ℕ) (f : Format) (at : ℕ) {old new : List ℕ} {r : Result ℕ Refusal} (d : Reads (reading part t f at) old new r) where
  pub lost : {x : Refusal} → r ≡ Err x → reading part t f at ≡ Err x
  lost e = placed-refused (reading part t f at) (sym d.says ∙ e)

  pub got : {e : ℕ} → at ≤ length t → r ≡ Ok e → Got part t f at old new e
  got h n =
      let g = placed-given (reading part t f at) (sym d.says ∙ n) in
      record {
        found = g.0;
        says = g.1;
        next = g.2;
        fits = (reading-was part t f at g.0 h g.1).fits;
        begun = record { cells = d.cells g.0 g.1; same = d.same };
        inside = subst (λ (m : ℕ). m ≤ length t) g.2 (read-within part t f at h g.1);
      }

module _ {part : Part} {t : List ℕ} {f : Format} {at : ℕ} {old new : List ℕ} {e : ℕ} (g : Got part t f at old new e) where
  pub got-entry : (i : ℕ) → i < length g.found.values → get_or new i 0 ≡ get_or g.found.values i 0
  unfolding written
  got-entry i h = ap (λ (l : List ℕ). get_or l i 0) g.begun.cells ∙ get_or-first g.found.values _ i h

  pub got-all : {n : ℕ} → n ≡ length g.found.values → take n new ≡ g.found.values
  got-all {n} h = ap (take n) g.begun.cells ∙ written-front g.found.values old (sym h)

-- after numbers at the start of a slice, the second is lent the rest of it
module _ {part : Part} {t : List ℕ} {f : Format} {at : ℕ} {old new : List ℕ} {e k : ℕ} (w : Got part t f at old new e) (g : List ℕ → Format) (l : length w.found.values ≡ k) where
  abbrev vs : List ℕ
  vs = w.found.values

  pub got-then : {last : List ℕ} {r : Result ℕ Refusal} → ((u : Found) → reading part t (seq f g) at ≡ Ok u → length u.values ≤ length old)
      → Reads (reading part t (g w.found.values) e) (take (length new - k) (drop k new)) last r
      → Reads (reading part t (seq f g) at) old (take k new ++ (last ++ drop (length new - k) (drop k new))) r
  got-then {last} {r} room h = record {
    says = h.says ∙ (sym (placed-after vs x) ∙ ap placed (sym whole));
    same = same_len_mid k (length new - k) new last h.same ∙ w.begun.same;
    cells = λ u d.
        let a = after_was vs x (sym whole ∙ d) in
        let m = room u d in
        (begun_more a.0.values last w.begun l (omega (arith, m, l, ap length a.2, length-append vs a.0.values)) (h.cells a.0 a.1)).cells
        ∙ ap (λ (v : List ℕ). written v old) (sym a.2);
  }
    where
      x : Result Found Refusal
      x = reading part t (g vs) e

      whole : reading part t (seq f g) at ≡ after vs x
      whole = seq-is part t f at g w.says ∙ ap (λ (n : ℕ). after vs (reading part t (g vs) n)) w.next
