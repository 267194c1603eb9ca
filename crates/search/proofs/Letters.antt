-- The words of a search and the letters that they have, as lists in the order of shortlex. Assumes nothing.
use mathlib.Core.Path.{◌≡◌, refl, ap, sym, ◌∙◌}
use mathlib.Core.List.{List, [], ◌∷◌, ◌++◌, append_assoc}
use Prim.Native.Nat.{ℕ, suc, ◌<◌}
use native.Mathlib.Omega.{arith}
use lib.ListN.{length, length-append}
use Rattle.fdfa.specs.Words.{done, below, Lex, differ, agree, Shortlex, shorter, as_long}
use Rattle.fdfa.specs.Words as lists
use Rattle.fdfa.specs.Family.{walk}
use Rattle.fdfa.proofs.Words.{over-append, walk-append}
use Rattle.search.specs.Words.{Word, ε, ◌·◌, ◌⊏◌, short, front, last, run, Over, size, letters}

pub letters-over : {s : ℕ} (w : Word) → Over s w → lists.Over s (letters w)
letters-over ε o = done
letters-over (w · a) o = over-append (letters-over w o.0) (below o.1 done)

pub walk-letters : (f : ℕ → ℕ → ℕ) (q : ℕ) (w : Word) → walk f q (letters w) ≡ run f q w
walk-letters f q ε = refl
walk-letters f q (w · a) = walk-append f q (letters w) (a ∷ []) ∙ ap (λ (x : ℕ). f x a) (walk-letters f q w)

length-snoc : (v : List ℕ) (a : ℕ) → length (v ++ (a ∷ [])) ≡ suc (length v)
length-snoc v a = length-append v (a ∷ []) ∙ omega arith

pub length-letters : (w : Word) → length (letters w) ≡ size w
length-letters ε = refl
length-letters (w · a) = length-snoc (letters w) a ∙ ap suc (length-letters w)

-- a word with more letters behind it
onto : Word → List ℕ → Word
onto w [] = w
onto w (a ∷ l) = onto (w · a) l

pub word : List ℕ → Word
word l = onto ε l

onto-letters : (w : Word) (l : List ℕ) → letters (onto w l) ≡ letters w ++ l
unfolding onto
onto-letters w [] = sym (nil (letters w))
  where
    nil : (l : List ℕ) → l ++ [] ≡ l
    nil [] = refl
    nil (a ∷ l) = ap (λ (x : List ℕ). a ∷ x) (nil l)
onto-letters w (a ∷ l) = onto-letters (w · a) l ∙ append_assoc (letters w) (a ∷ []) l

pub letters-word : (l : List ℕ) → letters (word l) ≡ l
unfolding word
letters-word l = onto-letters ε l

onto-over : {s : ℕ} (w : Word) {l : List ℕ} → Over s w → lists.Over s l → Over s (onto w l)
unfolding onto
onto-over w o done = o
onto-over w o (below {a = a} h p) = onto-over (w · a) (o, h) p

pub word_over : {s : ℕ} {l : List ℕ} → lists.Over s l → Over s (word l)
unfolding word
word_over o = onto-over ε tt o

pub run-word : (f : ℕ → ℕ → ℕ) (q : ℕ) (l : List ℕ) → run f q (word l) ≡ walk f q l
run-word f q l = sym (walk-letters f q (word l)) ∙ ap (walk f q) (letters-word l)

lex-front : {v w : List ℕ} (a b : ℕ) → Lex v w → Lex (v ++ (a ∷ [])) (w ++ (b ∷ []))
lex-front a b (differ h) = differ h
lex-front a b (agree p) = agree (lex-front a b p)

lex-last : (w : List ℕ) {a b : ℕ} → a < b → Lex (w ++ (a ∷ [])) (w ++ (b ∷ []))
lex-last [] h = differ h
lex-last (x ∷ w) h = agree (lex-last w h)

-- the order of words is shortlex on their letters
pub ordered : {v w : Word} → v ⊏ w → Shortlex (letters v) (letters w)
ordered (short {w = w} {a = a}) = let h : 0 < length (letters w ++ (a ∷ [])) = rw (length-snoc (letters w) a) (omega arith) in shorter h
ordered (front {v = v} {w = w} {a = a} {b = b} p) = by (ordered p)
  where
    by : Shortlex (letters v) (letters w) → Shortlex (letters v ++ (a ∷ [])) (letters w ++ (b ∷ []))
    by (shorter h) =
        let k : length (letters v ++ (a ∷ [])) < length (letters w ++ (b ∷ [])) = rw (length-snoc (letters v) a, length-snoc (letters w) b) (omega arith) in
        shorter k
    by (as_long e p) = as_long (length-snoc (letters v) a ∙ (ap suc e ∙ sym (length-snoc (letters w) b))) (lex-front a b p)
ordered (last {w = w} {a = a} {b = b} h) = as_long (length-snoc (letters w) a ∙ sym (length-snoc (letters w) b)) (lex-last (letters w) h)
