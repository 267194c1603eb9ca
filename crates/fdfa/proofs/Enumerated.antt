-- What the searches by enumeration find: the first word, and the first lasso, that passes. Assumes nothing.
use mathlib.Core.Path.{◌≡◌, refl, ap, sym, subst, ◌∙◌}
use mathlib.Core.Bool.{Bool, true, false, true≢false}
use mathlib.Core.List.{List, [], ◌∷◌}
use mathlib.Core.Logic.{◌⊎◌, inl, inr}
use Prim.Native.Nat.{ℕ, zero, suc, ◌+◌, ◌≤◌, ◌<◌}
use native.Mathlib.Omega.{arith}
use native.Mathlib.Decide.{ℕ_discrete}
use native.Mathlib.Nat.{suc_inj}
use lib.ListN.{length}
use Rattle.fdfa.specs.Words.{Over, done, below, differ, Shortlex, shorter, as_long, Before, by_prefix, by_period}
use Rattle.fdfa.specs.Enumeration.{Found, none, word, is_found, behind, first_letter, first_of_length, first_word, Witness, absent, lasso, with_period, with_prefix, first_lasso_of}
use Rattle.fdfa.proofs.Order.{shortlex-cons}

-- w is v or comes after it.
pub data Upto (v w : List ℕ) : Type 0 where
  same : v ≡ w → Upto v w
  later : Shortlex v w → Upto v w

-- What a search among the words with the property In finds: the first that passes, or none where none passes.
pub data Finds (In : List ℕ → Type 0) (p : List ℕ → Bool) : Found → Type 0 where
  finds : {w : List ℕ} → In w → p w ≡ true → ((w' : List ℕ) → In w' → p w' ≡ true → Upto w w') → Finds In p (word w)
  misses : ((w : List ℕ) → In w → p w ≡ true → ⊥) → Finds In p none

-- the same words, or more of which none passes
widen : {In In' : List ℕ → Type 0} {p : List ℕ → Bool} {r : Found} → ((w : List ℕ) → In w → In' w) → ((w : List ℕ) → In' w → p w ≡ true → In w) → Finds In p r → Finds In' p r
widen up down (finds {w = w} i e first) = finds (up w i) e (λ w' i' e'. first w' (down w' i' e') e')
widen up down (misses never) = misses (λ w i e. never w (down w i e) e)

-- A word of a class for one of the letters a, .., a + m − 1.
record Under (In : ℕ → List ℕ → Type 0) (a m : ℕ) (w : List ℕ) : Type 0 where
  pub letter : ℕ
  pub from : a ≤ letter
  pub to : letter < a + m
  pub within : In letter w

letters-first : (In : ℕ → List ℕ → Type 0) (p : List ℕ → Bool) (f : ℕ → Found) → ((x y : ℕ) (w w' : List ℕ) → x < y → In x w → In y w' → Shortlex w w') → ((x : ℕ) → Finds (In x) p (f x))
    → (m a : ℕ) → Finds (Under In a m) p (first_letter m a f)
unfolding first_letter
letters-first In p f rising each zero a = misses (λ w i e. omega (arith, i.from, i.to))
letters-first In p f rising each (suc m) a = by (f a) refl (each a) (letters-first In p f rising each m (suc a))
  where
    by : (r : Found) → f a ≡ r → Finds (In a) p (f a) → Finds (Under In (suc a) m) p (first_letter m (suc a) f) → Finds (Under In a (suc m)) p (first_letter (suc m) a f)
    by none e here ih = rw (e, first_letter) (widen up down ih)
      where
        up : (w : List ℕ) → Under In (suc a) m w → Under In a (suc m) w
        up w i = record { letter = i.letter; from = omega (arith, i.from); to = omega (arith, i.to); within = i.within }

        never : Finds (In a) p none → (w : List ℕ) → In a w → p w ≡ true → ⊥
        never (misses n) = n

        down : (w : List ℕ) → Under In a (suc m) w → p w ≡ true → Under In (suc a) m w
        down w i d = or (ℕ_discrete i.letter a)
          where
            or : Dec (i.letter ≡ a) → Under In (suc a) m w
            or (yes l) = absurd (never (rw e at here) w (subst (λ (x : ℕ). In x w) l i.within) d)
            or (no l) = record { letter = i.letter; from = omega (arith, i.from); to = omega (arith, i.to); within = i.within }
    by (word v) e here ih = rw (e, first_letter) (found (rw e at here))
      where
        found : Finds (In a) p (word v) → Finds (Under In a (suc m)) p (word v)
        found (finds i d first) =
            finds (record { letter = a; from = omega arith; to = omega arith; within = i }) d (λ w' i' d'. or w' i' d' (ℕ_discrete i'.letter a))
          where
            or : (w' : List ℕ) (i' : Under In a (suc m) w') → p w' ≡ true → Dec (i'.letter ≡ a) → Upto v w'
            or w' i' d' (yes l) = first w' (subst (λ (x : ℕ). In x w') l i'.within) d'
            or w' i' d' (no l) = later (rising a i'.letter v w' (omega (arith, i'.from)) i i'.within)

-- The words of m letters below s, and those of them that begin with a letter.
pub record Letters (s m : ℕ) (w : List ℕ) : Type 0 where
  pub over : Over s w
  pub long : length w ≡ m

data Begins (s m a : ℕ) : List ℕ → Type 0 where
  begins : {w : List ℕ} → Letters s m w → Begins s m a (a ∷ w)

begins-rise : (s m x y : ℕ) (w w' : List ℕ) → x < y → Begins s m x w → Begins s m y w' → Shortlex w w'
begins-rise s m x y w w' h (begins i) (begins j) = as_long (ap suc (i.long ∙ sym j.long)) (differ h)

pub upto-cons : (a : ℕ) {v w : List ℕ} → Upto v w → Upto (a ∷ v) (a ∷ w)
upto-cons a (same d) = same (ap (λ (x : List ℕ). a ∷ x) d)
upto-cons a (later p) = later (shortlex-cons a p)

behind-first : (s m a : ℕ) (p : List ℕ → Bool) (r : Found) → Finds (Letters s m) (λ w. p (a ∷ w)) r → Finds (Begins s m a) p (behind a r)
behind-first s m a p (word v) (finds i e first) = finds (begins i) e next
  where
    next : (w : List ℕ) → Begins s m a w → p w ≡ true → Upto (a ∷ v) w
    next w (begins {w = t} j) d = upto-cons a (first t j d)
behind-first s m a p none (misses never) = misses next
  where
    next : (w : List ℕ) → Begins s m a w → p w ≡ true → ⊥
    next w (begins {w = t} j) d = never t j d

pub length-first : (s m : ℕ) (p : List ℕ → Bool) → Finds (Letters s m) p (first_of_length s m p)
unfolding first_of_length
length-first s zero p = by (p []) refl
  where
    only : (w : List ℕ) → Letters s 0 w → [] ≡ w
    only [] i = refl
    only (a ∷ w) i = absurd (omega (arith, i.long))

    by : (b : Bool) → p [] ≡ b → Finds (Letters s 0) p (first_of_length s 0 p)
    by true e = rw (e, first_of_length) (finds (record { over = done; long = refl }) e (λ w i d. same (only w i)))
    by false e = rw (e, first_of_length) (misses (λ w i d. true≢false (sym d ∙ (ap p (sym (only w i)) ∙ e))))
length-first s (suc m) p =
    widen up (λ w i e. down w i)
    (letters-first (Begins s m) p (λ a. behind a (first_of_length s m (λ w. p (a ∷ w)))) (begins-rise s m)
    (λ a. behind-first s m a p (first_of_length s m (λ w. p (a ∷ w))) (length-first s m (λ w. p (a ∷ w)))) s 0)
  where
    joined : (w : List ℕ) (a : ℕ) → a < s → Begins s m a w → Letters s (suc m) w
    joined w a h (begins j) = record { over = below h j.over; long = ap suc j.long }

    up : (w : List ℕ) → Under (Begins s m) 0 s w → Letters s (suc m) w
    up w i = joined w i.letter (omega (arith, i.to)) i.within

    down : (w : List ℕ) → Letters s (suc m) w → Under (Begins s m) 0 s w
    down [] i = absurd (omega (arith, i.long))
    down (a ∷ w) i = by i.over
      where
        by : Over s (a ∷ w) → Under (Begins s m) 0 s (a ∷ w)
        by (below h o) = record { letter = a; from = omega arith; to = omega arith; within = begins (record { over = o; long = suc_inj i.long }) }

-- The words of m to m + c − 1 letters below s.
pub record Ranges (s m c : ℕ) (w : List ℕ) : Type 0 where
  pub over : Over s w
  pub from : m ≤ length w
  pub to : length w < m + c

pub word_first : (s m c : ℕ) (p : List ℕ → Bool) → Finds (Ranges s m c) p (first_word s m c p)
unfolding first_word
word_first s m zero p = misses (λ w i e. omega (arith, i.from, i.to))
word_first s m (suc c) p = by (first_of_length s m p) refl (length-first s m p) (word_first s (suc m) c p)
  where
    by : (r : Found) → first_of_length s m p ≡ r → Finds (Letters s m) p (first_of_length s m p) → Finds (Ranges s (suc m) c) p (first_word s (suc m) c p) → Finds (Ranges s m (suc c)) p (first_word s m (suc c) p)
    by none e here ih = rw (e, first_word) (widen up down ih)
      where
        up : (w : List ℕ) → Ranges s (suc m) c w → Ranges s m (suc c) w
        up w i = record { over = i.over; from = omega (arith, i.from); to = omega (arith, i.to) }

        never : Finds (Letters s m) p none → (w : List ℕ) → Letters s m w → p w ≡ true → ⊥
        never (misses n) = n

        down : (w : List ℕ) → Ranges s m (suc c) w → p w ≡ true → Ranges s (suc m) c w
        down w i d = or (ℕ_discrete (length w) m)
          where
            or : Dec (length w ≡ m) → Ranges s (suc m) c w
            or (yes l) = absurd (never (rw e at here) w (record { over = i.over; long = l }) d)
            or (no l) = record { over = i.over; from = omega (arith, i.from); to = omega (arith, i.to) }
    by (word v) e here ih = rw (e, first_word) (found (rw e at here))
      where
        found : Finds (Letters s m) p (word v) → Finds (Ranges s m (suc c)) p (word v)
        found (finds i d first) =
            finds (record { over = i.over; from = omega (arith, i.long); to = omega (arith, i.long) }) d (λ w' i' d'. or w' i' d' (ℕ_discrete (length w') m))
          where
            or : (w' : List ℕ) (i' : Ranges s m (suc c) w') → p w' ≡ true → Dec (length w' ≡ m) → Upto v w'
            or w' i' d' (yes l) = first w' (record { over = i'.over; long = l }) d'
            or w' i' d' (no l) = later (shorter (omega (arith, i.long, i'.from)))

-- What a search for a lasso finds, among prefixes of the class In and periods of the class On.
pub data FindsLasso (In On : List ℕ → Type 0) (p : List ℕ → List ℕ → Bool) : Witness → Type 0 where
  has : {u v : List ℕ} → In u → On v → p u v ≡ true
      → ((u' v' : List ℕ) → In u' → On v' → p u' v' ≡ true → ((u ≡ u') × (v ≡ v')) ⊎ Before u v u' v') → FindsLasso In On p (lasso u v)
  lacks : ((u v : List ℕ) → In u → On v → p u v ≡ true → ⊥) → FindsLasso In On p absent

module _ (In On : List ℕ → Type 0) (p : List ℕ → List ℕ → Bool) (period : List ℕ → Found) (each : (u : List ℕ) → Finds On (p u) (period u)) where
  -- a period that passes is found
  some : (u v : List ℕ) → On v → p u v ≡ true → is_found (period u) ≡ true
  some u v i e = by (period u) (each u)
    where
      by : (r : Found) → Finds On (p u) r → is_found r ≡ true
      by (word w) f = refl
      by none (misses never) = absurd (never v i e)

  with-period : (u : List ℕ) → In u → is_found (period u) ≡ true → ((u' : List ℕ) → In u' → is_found (period u') ≡ true → Upto u u')
      → (r : Found) → is_found r ≡ true → Finds On (p u) r → FindsLasso In On p (with_period u r)
  with-period u i e first none d f = absurd (true≢false (sym d))
  with-period u i e first (word v) d (finds j h least) = has i j h next
    where
      next : (u' v' : List ℕ) → In u' → On v' → p u' v' ≡ true → ((u ≡ u') × (v ≡ v')) ⊎ Before u v u' v'
      next u' v' i' j' h' = by (first u' i' (some u' v' j' h'))
        where
          or : u ≡ u' → Upto v v' → ((u ≡ u') × (v ≡ v')) ⊎ Before u v u' v'
          or q (same l) = inl (q, l)
          or q (later l) = inr (by_period q l)

          by : Upto u u' → ((u ≡ u') × (v ≡ v')) ⊎ Before u v u' v'
          by (later l) = inr (by_prefix l)
          by (same q) = or q (least v' j' (ap (λ (x : List ℕ). p x v') q ∙ h'))

  with-prefix : (r : Found) → Finds In (λ u. is_found (period u)) r → FindsLasso In On p (with_prefix period r)
  with-prefix (word u) (finds i e first) = with-period u i e first (period u) e (each u)
  with-prefix none (misses never) = lacks (λ u v i j e. never u i (some u v j e))

pub lasso-first : (s m k : ℕ) (p : List ℕ → List ℕ → Bool) → FindsLasso (Ranges s 0 m) (Ranges s 1 k) p (first_lasso_of s m k p)
lasso-first s m k p =
    with-prefix (Ranges s 0 m) (Ranges s 1 k) p (λ u. first_word s 1 k (p u)) (λ u. word_first s 1 k (p u))
    (first_word s 0 m (λ u. is_found (first_word s 1 k (p u)))) (word_first s 0 m (λ u. is_found (first_word s 1 k (p u))))
