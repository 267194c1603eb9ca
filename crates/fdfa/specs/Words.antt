-- Finite words over the letters 0 to s − 1 (01: rows of scenes), their powers and their order. Assumes nothing.
use Rattle.std.specs.Prelude.{◌≡◌, List, [], ◌∷◌, ◌++◌, ℕ, zero, suc, ◌<◌, length}

-- Every letter of the word is below s.
pub data Over (s : ℕ) : List ℕ → Type 0 where
  done : Over s []
  below : {a : ℕ} {w : List ℕ} → a < s → Over s w → Over s (a ∷ w)

-- v repeated i times (01: i turns of v).
abbrev pub power : List ℕ → ℕ → List ℕ
power v zero = []
power v (suc i) = v ++ power v i

-- Of two words of one length: the smaller letter where the two first differ.
pub data Lex : List ℕ → List ℕ → Type 0 where
  differ : {a b : ℕ} {v w : List ℕ} → a < b → Lex (a ∷ v) (b ∷ w)
  agree : {a : ℕ} {v w : List ℕ} → Lex v w → Lex (a ∷ v) (a ∷ w)

-- v comes before w: it is shorter, or as long with the smaller letter where the two first differ.
pub data Shortlex (v w : List ℕ) : Type 0 where
  shorter : length v < length w → Shortlex v w
  as_long : length v ≡ length w → Lex v w → Shortlex v w

-- (u, v) comes before (u', v') (01: the order of shows): by the prefix, and for equal prefixes by the period.
pub data Before (u v u' v' : List ℕ) : Type 0 where
  by_prefix : Shortlex u u' → Before u v u' v'
  by_period : u ≡ u' → Shortlex v v' → Before u v u' v'
