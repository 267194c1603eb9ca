-- Texts stored one after the other. Assumes nothing.
use mathlib.Core.Path.{◌≡◌, refl, ap, sym, subst, ◌∙◌}
use mathlib.Core.List.{List, [], ◌∷◌, ◌++◌}
use Prim.Native.Nat.{ℕ, suc, ◌+◌, ◌≤◌}
use native.Mathlib.Omega.{arith}
use native.Mathlib.Numerals.{add-one}
use lib.ListN.{length, drop, set, length-append}
use lib.Seq.{sets, length-sets, sets-eq, set_out}
use Rattle.slices.specs.Filling.{written}
use Rattle.slices.specs.Tables.{tab, rows}
use Rattle.numbers.specs.Storing.{Stored}

pub sets-append : (x y l : List ℕ) (at : ℕ) → sets l at (x ++ y) ≡ sets (sets l at x) (at + length x) y
sets-append [] y l at = let e : at ≡ at + 0 = omega arith in ap (λ (k : ℕ). sets l k y) e
sets-append (c ∷ x) y l at =
    let e : suc at + length x ≡ at + suc (length x) = omega arith in
    sets-append x y (set l at c) (suc at) ∙ ap (λ (k : ℕ). sets (sets (set l at c) (suc at) x) k y) e

pub stored-none : (old : List ℕ) (at : ℕ) → Stored old at [] old at
stored-none old at = record { cells = refl; next = omega arith }

-- one byte, with room and without
pub stored-byte : (old : List ℕ) (at c : ℕ) → Stored old at (c ∷ []) (set old at c) (at + 1)
stored-byte old at c = record { cells = refl; next = refl }

pub stored_past : (old : List ℕ) (at c : ℕ) → length old ≤ at → Stored old at (c ∷ []) old (at + 1)
stored_past old at c h = record { cells = sym (set_out old at c h); next = refl }

pub stored-then : {old mid new : List ℕ} {at p r : ℕ} (x y : List ℕ) → Stored old at x mid p → Stored mid p y new r → Stored old at (x ++ y) new r
stored-then {old} {mid} {new} {at} {p} {r} x y s t = record {
  cells = t.cells ∙ ((λ i. sets (s.cells i) (s.next i) y) ∙ sym (sets-append x y old at));
  next = omega (arith, s.next, t.next, length-append x y);
}

pub stored-as : {old new : List ℕ} {at r : ℕ} {x y : List ℕ} → x ≡ y → Stored old at x new r → Stored old at y new r
stored-as {old} {new} {at} {r} e s = subst (λ (z : List ℕ). Stored old at z new r) e s

pub stored-length : {old new : List ℕ} {at r : ℕ} {x : List ℕ} → Stored old at x new r → length new ≡ length old
stored-length {old} {new} {at} {r} {x} s = ap length s.cells ∙ length-sets old at x

-- one row more, one entry more
pub stored_row : {old mid new : List ℕ} {at p r : ℕ} (i : ℕ) (f : ℕ → List ℕ) → Stored old at (rows i f) mid p → Stored mid p (f i) new r → Stored old at (rows (i + 1) f) new r
unfolding rows
stored_row i f s t = stored-as (ap (λ (k : ℕ). rows k f) (sym (add-one i))) (stored-then (rows i f) (f i) s t)

pub stored-entry : {old mid new : List ℕ} {at p r : ℕ} (i : ℕ) (f : ℕ → ℕ) → Stored old at (tab i f) mid p → Stored mid p (f i ∷ []) new r → Stored old at (tab (i + 1) f) new r
unfolding tab
stored-entry i f s t = stored-as (ap (λ (k : ℕ). tab k f) (sym (add-one i))) (stored-then (tab i f) (f i ∷ []) s t)

pub stored-none-rows : (old : List ℕ) (at : ℕ) (f : ℕ → List ℕ) → Stored old at (rows 0 f) old at
unfolding rows
stored-none-rows old at f = stored-none old at

pub stored-none-tab : (old : List ℕ) (at : ℕ) (f : ℕ → ℕ) → Stored old at (tab 0 f) old at
unfolding tab
stored-none-tab old at f = stored-none old at

-- a text that has room is written
pub stored-written : {old new : List ℕ} {r : ℕ} {x : List ℕ} → Stored old 0 x new r → length x ≤ length old → new ≡ written x old
unfolding written
stored-written {old} {new} {r} {x} s h = s.cells ∙ (sets-eq x old 0 (omega arith) ∙ ap (λ (k : ℕ). x ++ drop k old) zero-plus)
  where
    zero-plus : 0 + length x ≡ length x
    zero-plus = omega arith

pub stored-new : {old new fresh : List ℕ} {at r : ℕ} {x : List ℕ} → fresh ≡ new → Stored old at x new r → Stored old at x fresh r
stored-new {old} {new} {fresh} {at} {r} {x} e s = record { cells = e ∙ s.cells; next = s.next }

pub stored_at : {old new x : List ℕ} {at q r : ℕ} → r ≡ q → Stored old at x new q → Stored old at x new r
stored_at e s = record { cells = s.cells; next = e ∙ s.next }
