-- The status of states: what setting one to 0 does to the count of those that are 0, and what the count says. Assumes nothing.
use mathlib.Core.Path.{◌≡◌, refl, sym, subst, subst₂}
use mathlib.Core.List.{List, [], ◌∷◌}
use Prim.Native.Nat.{ℕ, zero, suc, ◌+◌, ◌-◌, ◌≤◌, ◌<◌}
use native.Mathlib.Omega.{arith}
use native.Mathlib.Nat.{add-zero, zero-add, not-suc-le-zero, le_of_suc-le-suc}
use native.Mathlib.Decide.{ℕ_discrete}
use lib.ListN.{length, get_or, set}
use Rattle.fdfa.specs.Inclusion.{Counts, of_none, has_it, lacks_it}
use Rattle.search.specs.Queue.{met}

pub met-set : (l : List ℕ) (i v : ℕ) → i < length l → met (set l i v) + (1 - get_or l i 0) ≡ met l + (1 - v)
met-set [] i v h = absurd (not-suc-le-zero h)
met-set (c ∷ cs) zero v h = omega arith
met-set (c ∷ cs) (suc i) v h = let ih = met-set cs i v (le_of_suc-le-suc h) in omega arith

pub met-most : (l : List ℕ) → met l ≤ length l
met-most [] = omega arith
met-most (c ∷ cs) = let ih = met-most cs in omega arith

-- a status that is not 0 leaves the count below the length
pub met-below : (l : List ℕ) (i : ℕ) → i < length l → 1 ≤ get_or l i 0 → met l < length l
met-below [] i h z = absurd (not-suc-le-zero h)
met-below (c ∷ cs) zero h z = let ih = met-most cs in omega arith
met-below (c ∷ cs) (suc i) h z = let ih = met-below cs i (le_of_suc-le-suc h) z in omega arith

pub met-none : (l : List ℕ) → ((i : ℕ) → i < length l → 1 ≤ get_or l i 0) → met l ≡ 0
met-none [] h = refl
met-none (c ∷ cs) h = let ih = met-none cs (λ i l. h (suc i) (omega arith)) in omega (arith, h 0 (omega arith))

-- r of the m numbers from i on have the property
data Count (P : ℕ → Type 0) : ℕ → ℕ → ℕ → Type 0 where
  no_more : {i : ℕ} → Count P i 0 0
  has : {i m r : ℕ} → P i → Count P (suc i) m r → Count P i (suc m) (suc r)
  lacks : {i m r : ℕ} → (P i → ⊥) → Count P (suc i) m r → Count P i (suc m) r

shift : (i m : ℕ) → suc i + m ≡ i + suc m
shift i m = omega arith

-- a of the numbers below i, and r of the m from i on
join : {P : ℕ → Type 0} {i m r a : ℕ} → Counts P i a → Count P i m r → Counts P (i + m) (a + r)
join {P} {i} {a = a} c no_more = subst₂ (Counts P) (sym (add-zero i)) (sym (add-zero a)) c
join {P} {i} {a = a} c (has {m = m} {r = r} p t) = subst₂ (Counts P) (shift i m) (shift a r) (join (has_it p c) t)
join {P} {i} {a = a} c (lacks {m = m} {r = r} p t) = subst₂ (Counts P) (shift i m) refl (join (lacks_it p c) t)

one : (P : ℕ → Type 0) (i m r c : ℕ) → (c ≡ 0 → P i) → (P i → c ≡ 0) → Count P (suc i) m r → Count P i (suc m) (1 - c + r)
one P i m r c to fro rest = by (ℕ_discrete c 0)
  where
    by : Dec (c ≡ 0) → Count P i (suc m) (1 - c + r)
    by (yes d) = let e : 1 - c + r ≡ suc r = omega arith in rw e (has (to d) rest)
    by (no d) = let e : 1 - c + r ≡ r = omega arith in rw e (lacks (λ p. d (fro p)) rest)

counts-from : (P : ℕ → Type 0) (status : List ℕ) (i : ℕ) → ((x : ℕ) → x < length status → get_or status x 0 ≡ 0 → P (i + x)) → ((x : ℕ) → x < length status → P (i + x) → get_or status x 0 ≡ 0)
    → Count P i (length status) (met status)
counts-from P [] i to fro = no_more
counts-from P (c ∷ cs) i to fro =
    one P i (length cs) (met cs) c (λ on. rw (add-zero i) at (to 0 (omega arith) on)) (λ p. fro 0 (omega arith) (rw (add-zero i) p))
    (counts-from P cs (suc i) (λ x h on. subst P (along x) (to (suc x) (omega arith) on)) (λ x h y. fro (suc x) (omega arith) (subst P (sym (along x)) y)))
  where
    along : (x : ℕ) → i + suc x ≡ suc i + x
    along x = omega arith

-- the states of status 0 count the numbers that have a property, where it is 0 just there
pub counts : (P : ℕ → Type 0) (status : List ℕ) → ((x : ℕ) → x < length status → get_or status x 0 ≡ 0 → P x) → ((x : ℕ) → x < length status → P x → get_or status x 0 ≡ 0) → Counts P (length status) (met status)
counts P status to fro =
    subst₂ (Counts P) (zero-add (length status)) (zero-add (met status))
    (join of_none (counts-from P status 0 (λ x h on. subst P (sym (zero-add x)) (to x h on)) (λ x h p. fro x h (subst P (zero-add x) p))))
