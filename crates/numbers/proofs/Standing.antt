-- What stands at a place of a text. Assumes nothing.
use mathlib.Core.Path.{◌≡◌, refl, ap, sym, subst, ◌∙◌}
use mathlib.Core.List.{List, [], ◌∷◌, ◌++◌}
use Prim.Native.Nat.{ℕ, zero, suc, ◌+◌, ◌-◌, ◌≤◌, ◌<◌}
use native.Mathlib.Omega.{arith}
use native.Mathlib.Nat.{add_assoc}
use native.Mathlib.Decide.{dec_lt}
use lib.ListN.{length, get_or, length-append}
use lib.Seq.{ext_get_or}
use Rattle.slices.specs.Tables.{rows}
use Rattle.slices.proofs.Tables.{get_or-first, get_or-second}

-- x stands at p.
pub record At (t : List ℕ) (p : ℕ) (x : List ℕ) : Type 0 where
  pub within : p + length x ≤ length t
  pub same : (i : ℕ) → i < length x → get_or t (p + i) 0 ≡ get_or x i 0

module _ (t : List ℕ) (p : ℕ) where
  pub at-nil : p ≤ length t → At t p []
  at-nil h = record { within = omega arith; same = λ i l. absurd (omega arith) }

  pub at_one : (a : ℕ) → p + 1 ≤ length t → get_or t (p + 0) 0 ≡ a → At t p (a ∷ [])
  at_one a h x = record { within = h; same = by }
    where
      by : (i : ℕ) → i < 1 → get_or t (p + i) 0 ≡ get_or (a ∷ []) i 0
      by zero l = x
      by (suc i) l = absurd (omega arith)

  pub at-two : (a b : ℕ) → p + 2 ≤ length t → get_or t (p + 0) 0 ≡ a → get_or t (p + 1) 0 ≡ b → At t p (a ∷ b ∷ [])
  at-two a b h x y = record { within = h; same = by }
    where
      by : (i : ℕ) → i < 2 → get_or t (p + i) 0 ≡ get_or (a ∷ b ∷ []) i 0
      by zero l = x
      by (suc zero) l = y
      by (suc (suc i)) l = absurd (omega arith)

  pub at-three : (a b c : ℕ) → p + 3 ≤ length t → get_or t (p + 0) 0 ≡ a → get_or t (p + 1) 0 ≡ b → get_or t (p + 2) 0 ≡ c → At t p (a ∷ b ∷ c ∷ [])
  at-three a b c h x y z = record { within = h; same = by }
    where
      by : (i : ℕ) → i < 3 → get_or t (p + i) 0 ≡ get_or (a ∷ b ∷ c ∷ []) i 0
      by zero l = x
      by (suc zero) l = y
      by (suc (suc zero)) l = z
      by (suc (suc (suc i))) l = absurd (omega arith)

  pub at-append : (x y : List ℕ) → At t p x → At t (p + length x) y → At t p (x ++ y)
  at-append x y a b = record {
    within = omega (arith, a.within, b.within, length-append x y);
    same = λ i l. by i (omega (arith, length-append x y)) (dec_lt i (length x));
  }
    where
      by : (i : ℕ) → i < length x + length y → Dec (i < length x) → get_or t (p + i) 0 ≡ get_or (x ++ y) i 0
      by i l (yes h) = a.same i h ∙ sym (get_or-first x y i h)
      by i l (no h) =
          let e : length x + (i - length x) ≡ i = omega arith in
          let d : p + i ≡ p + length x + (i - length x) = omega arith in
          ap (λ (k : ℕ). get_or t k 0) d
          ∙ (b.same (i - length x) (omega arith) ∙ (sym (get_or-second x y (length x) (i - length x) refl) ∙ ap (λ (k : ℕ). get_or (x ++ y) k 0) e))

  pub at_left : (x y : List ℕ) → At t p (x ++ y) → At t p x
  at_left x y a = record {
    within = omega (arith, a.within, length-append x y);
    same = λ i l. a.same i (omega (arith, length-append x y)) ∙ get_or-first x y i l;
  }

  pub at_right : (x y : List ℕ) → At t p (x ++ y) → At t (p + length x) y
  at_right x y a = record {
    within = omega (arith, a.within, length-append x y);
    same = λ i l. ap (λ (k : ℕ). get_or t k 0) (add_assoc p (length x) i) ∙ (a.same (length x + i) (omega (arith, length-append x y)) ∙ get_or-second x y (length x) i refl);
  }

-- a text that is all there is
pub at-whole : (t x : List ℕ) → At t 0 x → length x ≡ length t → t ≡ x
at-whole t x a e =
    ext_get_or 0 t x (sym e) (λ i l. ap (λ (k : ℕ). get_or t k 0) (zero-plus i) ∙ a.same i (omega arith))
  where
    zero-plus : (i : ℕ) → i ≡ 0 + i
    zero-plus i = omega arith

pub at_self : (t : List ℕ) → At t 0 t
at_self t = record { within = omega arith; same = λ i l. ap (λ (k : ℕ). get_or t k 0) (plus-zero i) }
  where
    plus-zero : (i : ℕ) → 0 + i ≡ i
    plus-zero i = omega arith

-- rows that stand one after the other: one of them
pub row_at : (t : List ℕ) (p m : ℕ) (f : ℕ → List ℕ) → At t p (rows m f) → (i : ℕ) → i < m → At t (p + length (rows i f)) (f i)
unfolding rows
row_at t p zero f a i h = absurd (omega arith)
row_at t p (suc m) f a i h = by (dec_lt i m) (row_at t p m f (at_left t p (rows m f) (f m) a) i)
  where
    by : Dec (i < m) → (i < m → At t (p + length (rows i f)) (f i)) → At t (p + length (rows i f)) (f i)
    by (yes l) ih = ih l
    by (no l) ih = let e : m ≡ i = omega arith in subst (λ (k : ℕ). At t (p + length (rows k f)) (f k)) e (at_right t p (rows m f) (f m) a)

-- the first of some rows
pub front_at : (t : List ℕ) (p m : ℕ) (f : ℕ → List ℕ) → At t p (rows m f) → (j : ℕ) → j ≤ m → At t p (rows j f)
unfolding rows
front_at t p zero f a j h = let e : 0 ≡ j = omega arith in subst (λ (k : ℕ). At t p (rows k f)) e a
front_at t p (suc m) f a j h = by (dec_lt j (suc m)) (front_at t p m f (at_left t p (rows m f) (f m) a) j)
  where
    by : Dec (j < suc m) → (j ≤ m → At t p (rows j f)) → At t p (rows j f)
    by (yes l) ih = ih (omega arith)
    by (no l) ih = let e : suc m ≡ j = omega arith in subst (λ (k : ℕ). At t p (rows k f)) e a
