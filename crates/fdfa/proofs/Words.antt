-- Words, their powers, and the walk of an automaton over them. Assumes nothing.
use mathlib.Core.Path.{◌≡◌, refl, ap, sym, ◌∙◌}
use mathlib.Core.List.{List, [], ◌∷◌, ◌++◌, append-nil, append_assoc}
use Prim.Native.Nat.{ℕ, zero, suc, ◌+◌, ◌*◌, ◌≤◌, ◌<◌}
use native.Mathlib.Nat.{suc-add, zero-add, zero-mul, suc-mul, add_comm, mul-suc, mul-zero, le_of_suc-le-suc}
use native.Mathlib.Omega.{arith}
use native.Mathlib.Numerals.{add-one}
use lib.ListN.{length, get_or, take, drop, length-append}
use lib.Seq.{take-suc, take_all}
use Rattle.fdfa.specs.Words.{Over, done, below, power}
use Rattle.fdfa.specs.Family.{Closed, walk, Lasso}

pub over-append : {s : ℕ} {v w : List ℕ} → Over s v → Over s w → Over s (v ++ w)
over-append done q = q
over-append (below h p) q = below h (over-append p q)

pub over-left : {s : ℕ} (v w : List ℕ) → Over s (v ++ w) → Over s v
over-left [] w p = done
over-left (a ∷ v) w (below h p) = below h (over-left v w p)

pub over-right : {s : ℕ} (v w : List ℕ) → Over s (v ++ w) → Over s w
over-right [] w p = p
over-right (a ∷ v) w (below h p) = over-right v w p

pub over-power : {s : ℕ} {v : List ℕ} (i : ℕ) → Over s v → Over s (power v i)
over-power zero p = done
over-power (suc i) p = over-append p (over-power i p)

pub power-one : (v : List ℕ) → power v 1 ≡ v
power-one v = append-nil v

pub power-add : (v : List ℕ) (a b : ℕ) → power v (a + b) ≡ power v a ++ power v b
power-add v zero b = ap (power v) (zero-add b)
power-add v (suc a) b = ap (power v) (suc-add a b) ∙ (ap (λ (w : List ℕ). v ++ w) (power-add v a b) ∙ sym (append_assoc v (power v a) (power v b)))

-- b turns of a turns are a × b turns
pub power-power : (v : List ℕ) (a b : ℕ) → power (power v a) b ≡ power v (a * b)
power-power v a zero = sym (ap (power v) (mul-zero a))
power-power v a (suc b) =
    ap (λ (w : List ℕ). power v a ++ w) (power-power v a b)
    ∙ (sym (power-add v a (a * b)) ∙ ap (power v) (add_comm a (a * b) ∙ sym (mul-suc a b)))

-- u and a turns, then b turns more
pub power-on : (u v : List ℕ) (a b : ℕ) → (u ++ power v a) ++ power v b ≡ u ++ power v (a + b)
power-on u v a b = append_assoc u (power v a) (power v b) ∙ ap (λ (w : List ℕ). u ++ w) (sym (power-add v a b))

pub length-power : (v : List ℕ) (i : ℕ) → length (power v i) ≡ i * length v
length-power v zero = sym (zero-mul (length v))
length-power v (suc i) = length-append v (power v i) ∙ omega (arith, length-power v i, suc-mul i (length v))

cons-not-nil : {a : ℕ} {w : List ℕ} → a ∷ w ≡ [] → ⊥
cons-not-nil e = let z : ◌≡◌ {A = ℕ} 1 0 = ap some e in omega arith
  where
    some : List ℕ → ℕ
    some [] = 0
    some (a ∷ w) = 1

-- one turn or more of a word with letters has letters
pub power-loop : (v : List ℕ) → (v ≡ [] → ⊥) → (j : ℕ) → 0 < j → power v j ≡ [] → ⊥
power-loop [] h j p e = h refl
power-loop (a ∷ v) h zero p e = omega arith
power-loop (a ∷ v) h (suc j) p e = cons-not-nil e

-- the lasso with further turns
pub lasso-power : {s : ℕ} {u v : List ℕ} → Lasso s u v → (a b : ℕ) → 0 < b → Lasso s (u ++ power v a) (power v b)
lasso-power {s} {u} {v} l a b p = record {
  prefix = over-append l.prefix (over-power a l.period);
  period = over-power b l.period;
  loops = power-loop v l.loops b p;
}

pub walk-append : (f : ℕ → ℕ → ℕ) (q : ℕ) (v w : List ℕ) → walk f q (v ++ w) ≡ walk f (walk f q v) w
walk-append f q [] w = refl
walk-append f q (a ∷ v) w = walk-append f (f q a) v w

pub walk-closed : {s n : ℕ} {f : ℕ → ℕ → ℕ} → Closed s n f → {q : ℕ} → q < n → {w : List ℕ} → Over s w → walk f q w < n
walk-closed c h done = h
walk-closed c h (below l o) = walk-closed c (c _ _ h l) o

-- every letter of a part is a letter of the whole
pub over-take : {s : ℕ} (n : ℕ) {w : List ℕ} → Over s w → Over s (take n w)
over-take zero done = done
over-take zero (below h o) = done
over-take (suc n) done = done
over-take (suc n) (below h o) = below h (over-take n o)

pub over-drop : {s : ℕ} (n : ℕ) {w : List ℕ} → Over s w → Over s (drop n w)
over-drop zero done = done
over-drop zero (below h o) = below h o
over-drop (suc n) done = done
over-drop (suc n) (below h o) = over-drop n o

-- one letter more
pub walk-take : (f : ℕ → ℕ → ℕ) (q : ℕ) (w : List ℕ) (i : ℕ) → i < length w → walk f q (take (i + 1) w) ≡ f (walk f q (take i w)) (get_or w i 0)
walk-take f q w i h =
    ap (λ (n : ℕ). walk f q (take n w)) (add-one i)
    ∙ (ap (walk f q) (take-suc w i 0 h) ∙ walk-append f q (take i w) (get_or w i 0 ∷ []))

pub walk-on : (f : ℕ → ℕ → ℕ) (q₀ : ℕ) (w : List ℕ) (i : ℕ) {q a : ℕ} → i < length w → q ≡ walk f q₀ (take i w) → a ≡ get_or w i 0 → f q a ≡ walk f q₀ (take (i + 1) w)
walk-on f q₀ w i h e d = (λ j. f (e j) (d j)) ∙ sym (walk-take f q₀ w i h)

pub walk-all : (f : ℕ → ℕ → ℕ) (q : ℕ) (w : List ℕ) (i : ℕ) → length w ≤ i → walk f q (take i w) ≡ walk f q w
walk-all f q w i h = ap (walk f q) (take_all i w h)

-- a letter is below the letter count
pub over-letter : {s : ℕ} {w : List ℕ} → Over s w → (i : ℕ) → i < length w → get_or w i 0 < s
over-letter done i h = absurd (omega arith)
over-letter (below l o) zero h = l
over-letter (below l o) (suc i) h = over-letter o i (le_of_suc-le-suc h)

pub letters-over : (s : ℕ) (w : List ℕ) → ((i : ℕ) → i < length w → get_or w i 0 < s) → Over s w
letters-over s [] h = done
letters-over s (a ∷ w) h = below (h 0 (omega arith)) (letters-over s w (λ i l. h (suc i) (omega arith)))

-- one turn more
pub walk_turn : (f : ℕ → ℕ → ℕ) (q : ℕ) (v : List ℕ) (t : ℕ) → walk f (walk f q (power v t)) v ≡ walk f q (power v (t + 1))
walk_turn f q v t =
    sym (walk-append f q (power v t) v)
    ∙ ap (walk f q) (ap (λ (w : List ℕ). power v t ++ w) (sym (power-one v)) ∙ sym (power-add v t 1))
