-- Shortlex is a strict total order on words, and so is the order of lassos. Assumes nothing.
use mathlib.Core.Path.{◌≡◌, refl, ap, sym, subst, ◌∙◌}
use mathlib.Core.List.{List, [], ◌∷◌}
use mathlib.Core.Logic.{◌⊎◌, inl, inr}
use Prim.Native.Nat.{ℕ, suc, ◌<◌}
use native.Mathlib.Omega.{arith}
use native.Mathlib.Nat.{suc_inj, lt_trans}
use native.Mathlib.Decide.{dec_lt}
use lib.ListN.{length}
use Rattle.fdfa.specs.Words.{Lex, differ, agree, Shortlex, shorter, as_long, Before, by_prefix, by_period}

lex-≢ : {v w : List ℕ} → Lex v w → v ≡ w → ⊥
lex-≢ (differ {a = a} {b = b} h) e = let d : a ≡ b = cc in omega arith
lex-≢ (agree {v = v} {w = w} p) e = let d : v ≡ w = cc in lex-≢ p d

lex_irrefl : {w : List ℕ} → Lex w w → ⊥
lex_irrefl p = lex-≢ p refl

lex-trans : {u v w : List ℕ} → Lex u v → Lex v w → Lex u w
lex-trans (differ h) (differ k) = differ (lt_trans h k)
lex-trans (differ h) (agree q) = differ h
lex-trans (agree p) (differ k) = differ k
lex-trans (agree p) (agree q) = agree (lex-trans p q)

-- How two words stand to each other.
pub data Compared (v w : List ℕ) : Type 0 where
  before : Shortlex v w → Compared v w
  equal : v ≡ w → Compared v w
  after : Shortlex w v → Compared v w

data Lexed (v w : List ℕ) : Type 0 where
  less : Lex v w → Lexed v w
  same : v ≡ w → Lexed v w
  more : Lex w v → Lexed v w

lexed : (v w : List ℕ) → length v ≡ length w → Lexed v w
lexed [] [] e = same refl
lexed [] (b ∷ w) e = absurd (omega arith)
lexed (a ∷ v) [] e = absurd (omega arith)
lexed (a ∷ v) (b ∷ w) e = by (lexed v w (suc_inj e)) (dec_lt a b) (dec_lt b a)
  where
    tail : a ≡ b → Lexed v w → Lexed (a ∷ v) (b ∷ w)
    tail d (less p) = less (subst (λ (x : ℕ). Lex (a ∷ v) (x ∷ w)) d (agree p))
    tail d (same p) = same (ap (λ (x : ℕ). x ∷ v) d ∙ ap (λ (x : List ℕ). b ∷ x) p)
    tail d (more p) = more (subst (λ (x : ℕ). Lex (x ∷ w) (a ∷ v)) d (agree p))

    by : Lexed v w → Dec (a < b) → Dec (b < a) → Lexed (a ∷ v) (b ∷ w)
    by l (yes h) k = less (differ h)
    by l (no g) (yes h) = more (differ h)
    by l (no g) (no h) = tail (omega arith) l

pub compared : (v w : List ℕ) → Compared v w
compared v w = by (dec_lt (length v) (length w)) (dec_lt (length w) (length v))
  where
    long : length v ≡ length w → Lexed v w → Compared v w
    long e (less p) = before (as_long e p)
    long e (same p) = equal p
    long e (more p) = after (as_long (sym e) p)

    by : Dec (length v < length w) → Dec (length w < length v) → Compared v w
    by (yes h) k = before (shorter h)
    by (no g) (yes h) = after (shorter h)
    by (no g) (no h) = long (omega arith) (lexed v w (omega arith))

pub shortlex-irrefl : {w : List ℕ} → Shortlex w w → ⊥
shortlex-irrefl (shorter h) = omega arith
shortlex-irrefl (as_long e p) = lex_irrefl p

pub shortlex-trans : {u v w : List ℕ} → Shortlex u v → Shortlex v w → Shortlex u w
shortlex-trans (shorter h) (shorter k) = shorter (omega arith)
shortlex-trans (shorter h) (as_long e q) = shorter (omega arith)
shortlex-trans (as_long e p) (shorter k) = shorter (omega arith)
shortlex-trans (as_long e p) (as_long d q) = as_long (e ∙ d) (lex-trans p q)

-- the same letter in front of both
pub shortlex-cons : (a : ℕ) {v w : List ℕ} → Shortlex v w → Shortlex (a ∷ v) (a ∷ w)
shortlex-cons a (shorter h) = shorter (omega arith)
shortlex-cons a (as_long e p) = as_long (ap suc e) (agree p)

pub before-irrefl : {u v : List ℕ} → Before u v u v → ⊥
before-irrefl (by_prefix p) = shortlex-irrefl p
before-irrefl (by_period e p) = shortlex-irrefl p

pub before-trans : {u v u' v' u'' v'' : List ℕ} → Before u v u' v' → Before u' v' u'' v'' → Before u v u'' v''
before-trans (by_prefix p) (by_prefix q) = by_prefix (shortlex-trans p q)
before-trans {u} (by_prefix p) (by_period e q) = by_prefix (subst (λ (x : List ℕ). Shortlex u x) e p)
before-trans {u'' = u''} (by_period e p) (by_prefix q) = by_prefix (subst (λ (x : List ℕ). Shortlex x u'') (sym e) q)
before-trans (by_period e p) (by_period d q) = by_period (e ∙ d) (shortlex-trans p q)

-- any two lassos are the same, or one comes before the other
pub before-total : (u v u' v' : List ℕ) → ((u ≡ u') × (v ≡ v')) ⊎ (Before u v u' v' ⊎ Before u' v' u v)
before-total u v u' v' = by (compared u u') (compared v v')
  where
    by : Compared u u' → Compared v v' → ((u ≡ u') × (v ≡ v')) ⊎ (Before u v u' v' ⊎ Before u' v' u v)
    by (before p) c = inr (inl (by_prefix p))
    by (after p) c = inr (inr (by_prefix p))
    by (equal e) (before p) = inr (inl (by_period e p))
    by (equal e) (equal d) = inl (e, d)
    by (equal e) (after p) = inr (inr (by_period (sym e) p))
