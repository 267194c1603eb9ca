-- The first word, and the first lasso, that passes a test, by trying them all up to a length. That they find
-- the first within the bounds is `lasso-first` of proofs/Enumerated; that the bounds of this project lose nothing is
-- `search-answers` of proofs/Emptiness. Assumes nothing.
use Rattle.std.specs.Prelude.{Bool, true, false, List, [], ◌∷◌, ℕ, zero, suc}

-- What a search finds.
pub data Found : Type 0 where
  none : Found
  word : List ℕ → Found

abbrev pub is_found : Found → Bool
is_found none = false
is_found (word w) = true

abbrev pub behind : ℕ → Found → Found
behind a none = none
behind a (word w) = word (a ∷ w)

-- What the first of the letters a, a + 1, .., m of them, finds.
unfoldable pub first_letter : ℕ → ℕ → (ℕ → Found) → Found
first_letter zero a f = none
first_letter (suc m) a f = elim (f a) [ word w ↦ word w | none ↦ first_letter m (suc a) f ]

-- The first word of m letters below s that passes.
unfoldable pub first_of_length : ℕ → ℕ → (List ℕ → Bool) → Found
first_of_length s zero p = elim (p []) [ true ↦ word [] | false ↦ none ]
first_of_length s (suc m) p = first_letter s 0 (λ a. behind a (first_of_length s m (λ w. p (a ∷ w))))

-- The first word of m, m + 1, .. letters, c lengths in all, that passes.
unfoldable pub first_word : ℕ → ℕ → ℕ → (List ℕ → Bool) → Found
first_word s m zero p = none
first_word s m (suc c) p = elim (first_of_length s m p) [ word w ↦ word w | none ↦ first_word s (suc m) c p ]

pub data Witness : Type 0 where
  absent : Witness
  lasso : List ℕ → List ℕ → Witness

abbrev pub with_period : List ℕ → Found → Witness
with_period u none = absent
with_period u (word v) = lasso u v

abbrev pub with_prefix : (List ℕ → Found) → Found → Witness
with_prefix period none = absent
with_prefix period (word u) = with_period u (period u)

-- The first lasso that passes, among prefixes of fewer than m letters and periods of 1 to k: the first prefix for which
-- some period passes, with its first period.
abbrev pub first_lasso_of : ℕ → ℕ → ℕ → (List ℕ → List ℕ → Bool) → Witness
first_lasso_of s m k p = with_prefix (λ u. first_word s 1 k (p u))
    (first_word s 0 m (λ u. is_found (first_word s 1 k (p u))))
