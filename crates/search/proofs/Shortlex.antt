-- The laws of the order of words. Assumes nothing.
use mathlib.Core.Path.{◌≡◌, subst}
use Prim.Native.Nat.{ℕ}
use native.Mathlib.Nat.{lt_trans}
use Rattle.search.specs.Words.{Word, ε, ◌·◌, ◌⊏◌, ◌⊑◌, short, front, last, same, less}

pub ⊏-trans : {u v w : Word} → u ⊏ v → v ⊏ w → u ⊏ w
⊏-trans short (front q) = short
⊏-trans short (last h) = short
⊏-trans (front p) (front q) = front (⊏-trans p q)
⊏-trans (front p) (last h) = front p
⊏-trans (last h) (front q) = front q
⊏-trans (last h) (last k) = last (lt_trans h k)

pub ⊑⊏ : {u v w : Word} → u ⊑ v → v ⊏ w → u ⊏ w
⊑⊏ same q = q
⊑⊏ (less p) q = ⊏-trans p q

pub ⊑_trans : {u v w : Word} → u ⊑ v → v ⊑ w → u ⊑ w
⊑_trans p same = p
⊑_trans p (less q) = less (⊑⊏ p q)

-- one more letter makes a later word
pub grows : (w : Word) (a : ℕ) → w ⊏ (w · a)
grows ε a = short
grows (w · b) a = front (grows w b)

-- the same letter behind two words
pub ⊑-snoc : {v w : Word} (a : ℕ) → v ⊑ w → (v · a) ⊑ (w · a)
⊑-snoc a same = same
⊑-snoc a (less p) = less (front p)

pub ⊑-of-eq : {v w : Word} → v ≡ w → v ⊑ w
⊑-of-eq {v} e = subst (λ (x : Word). v ⊑ x) e same
