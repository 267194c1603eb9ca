-- A word leads nowhere that a word of fewer letters than the automaton has states does not lead. Assumes nothing.
use mathlib.Core.Path.{◌≡◌, refl, ap, sym, subst, ◌∙◌}
use mathlib.Core.List.{List, [], ◌∷◌, ◌++◌}
use Prim.Native.Nat.{ℕ, zero, suc, ◌+◌, ◌-◌, ◌≤◌, ◌<◌}
use native.Mathlib.Omega.{arith}
use native.Mathlib.Decide.{dec_lt}
use lib.ListN.{length, take, drop, length-append, length-drop, take-append-drop}
use lib.Seq.{length-take-le}
use Rattle.fdfa.specs.Words.{Over, below, shorter}
use Rattle.fdfa.specs.Family.{Closed, walk}
use Rattle.fdfa.proofs.Words.{over-append, over-take, over-drop, walk-append, walk-closed}
use Rattle.fdfa.proofs.Order.{shortlex-trans}
use Rattle.fdfa.proofs.Pigeonhole.{Repeat, pigeonhole}
use Rattle.fdfa.proofs.Enumerated.{Upto, same, later, upto-cons}

-- A word of fewer than n letters that leads where w does, and is w or comes before it.
pub record Short (s n : ℕ) (f : ℕ → ℕ → ℕ) (q : ℕ) (w : List ℕ) : Type 0 where
  pub by : List ℕ
  pub over : Over s by
  pub few : length by < n
  pub goes : walk f q by ≡ walk f q w
  pub early : Upto by w

upto-longer : {u v w : List ℕ} → Upto u v → length v < length w → Upto u w
upto-longer {w = w} (same e) h = later (shorter (subst (λ (x : List ℕ). length x < length w) (sym e) h))
upto-longer (later p) h = later (shortlex-trans p (shorter h))

module _ (s n : ℕ) (f : ℕ → ℕ → ℕ) (closed : Closed s n f) (q : ℕ) (inside : q < n) where
  -- the letters between two visits of one state are left out
  cut : (w : List ℕ) → Over s w → n ≤ length w → (v : List ℕ) × Over s v × (length v < length w) × (walk f q v ≡ walk f q w)
  cut w o h = (v, over-append (over-take r.a o) (over-drop r.b o), fewer, goes)
    where
      r : Repeat (λ t. walk f q (take t w)) n
      r = pigeonhole n (λ t. walk f q (take t w)) (λ t l. walk-closed closed inside (over-take t o))

      v : List ℕ
      v = take r.a w ++ drop r.b w

      fewer : length v < length w
      fewer =
          omega (arith, length-append (take r.a w) (drop r.b w), length-take-le r.a w (omega (arith, r.rises, r.upto)), length-drop r.b w, r.rises, r.upto)

      goes : walk f q v ≡ walk f q w
      goes =
          walk-append f q (take r.a w) (drop r.b w)
          ∙ (ap (λ (x : ℕ). walk f x (drop r.b w)) r.same
          ∙ (sym (walk-append f q (take r.b w) (drop r.b w)) ∙ ap (walk f q) (take-append-drop r.b w)))

  -- by steps that each leave out a letter or more
  shorten : (m : ℕ) (w : List ℕ) → length w ≤ m → Over s w → Short s n f q w
  shorten zero w h o = record { by = w; over = o; few = omega arith; goes = refl; early = same refl }
  shorten (suc m) w h o = by (shorten m) (dec_lt (length w) n)
    where
      by : ((v : List ℕ) → length v ≤ m → Over s v → Short s n f q v) → Dec (length w < n) → Short s n f q w
      by ih (yes l) = record { by = w; over = o; few = l; goes = refl; early = same refl }
      by ih (no l) = record { by = r.by; over = r.over; few = r.few; goes = r.goes ∙ c.3; early = upto-longer r.early c.2 }
        where
          c : (v : List ℕ) × Over s v × (length v < length w) × (walk f q v ≡ walk f q w)
          c = cut w o (omega arith)

          r : Short s n f q c.0
          r = ih c.0 (omega (arith, c.2)) c.1

  pub short : (w : List ℕ) → Over s w → Short s n f q w
  short w o = shorten (length w) w (omega arith) o

-- The same for a word with letters: one with letters, and at most as many as there are states.
pub record ShortTurn (s n : ℕ) (f : ℕ → ℕ → ℕ) (q : ℕ) (w : List ℕ) : Type 0 where
  pub by : List ℕ
  pub over : Over s by
  pub some : 1 ≤ length by
  pub few : length by ≤ n
  pub goes : walk f q by ≡ walk f q w
  pub early : Upto by w

pub short-turn : (s n : ℕ) (f : ℕ → ℕ → ℕ) → Closed s n f → (q : ℕ) → q < n → (w : List ℕ) → (w ≡ [] → ⊥) → Over s w → ShortTurn s n f q w
short-turn s n f closed q inside [] loops o = absurd (loops refl)
short-turn s n f closed q inside (a ∷ w) loops (below h o) = record {
  by = a ∷ r.by;
  over = below h r.over;
  some = omega arith;
  few = omega (arith, r.few);
  goes = r.goes;
  early = upto-cons a r.early;
}
  where
    r : Short s n f (f q a) w
    r = short s n f closed (f q a) (closed q a inside h) w o
