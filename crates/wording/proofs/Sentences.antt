-- The sentences of refusals: none is long, none is empty, no two reasons have the same, and a number has one. Assumes nothing.
use mathlib.Core.Path.{◌≡◌, refl, ap, sym, ◌∙◌}
use mathlib.Core.Bool.{Bool, true, false, cond, ◌&&◌}
use mathlib.Core.List.{List, [], ◌∷◌}
use Prim.Native.Nat.{ℕ, ◌≤◌}
use native.Mathlib.Omega.{arith}
use lib.Dec.{eqb}
use lib.ListN.{length}
use Rattle.slices.specs.declared.Reason.{Reason}
use Rattle.slices.specs.declared.Reason.TheVariants.{SheetLength, LetterCount, StateCount, ProgressSize, NextState}
use Rattle.slices.specs.declared.Reason.TheVariants.{MarkByte, LettersDiffer, EmptyLoop, UnknownLetter, UnknownLevel}
use Rattle.slices.specs.declared.Reason.TheVariants.{OffLayout, OutOfTurn, NoneAccepting, SecondsRange, ProductSize}
use Rattle.slices.specs.declared.Reason.TheVariants.{TooLittleRoom, TooFewCells, FoundTooLong, CursorPastEnd}
use Rattle.slices.specs.declared.Reason.TheVariants.{FileTooLong, PartTooLong, CartCount, CartLength}
use Rattle.slices.specs.Refusals.{number_of}
use Rattle.slices.proofs.Reasons.{reasons, keyed, own-key, own-number}
use Rattle.wording.specs.Words.{sentence}

pub sentence-short : (q : Reason) → length (sentence q) ≤ 80
unfolding sentence
sentence-short SheetLength = omega arith
sentence-short _ = omega arith

pub sentence-some : (q : Reason) → 1 ≤ length (sentence q)
unfolding sentence
sentence-some SheetLength = omega arith
sentence-some _ = omega arith

same : List ℕ → List ℕ → Bool
same [] [] = true
same [] (y ∷ ys) = false
same (x ∷ xs) [] = false
same (x ∷ xs) (y ∷ ys) = eqb x y && same xs ys

found-sentence : (q : Reason) → keyed same sentence reasons (sentence q) ≡ q
unfolding sentence same keyed
found-sentence SheetLength = refl
found-sentence _ = refl

-- Every reason has a sentence of its own.
pub own-sentence : (q r : Reason) → sentence q ≡ sentence r → q ≡ r
own-sentence = own-key same sentence found-sentence

-- So has every number: it stands for one reason.
pub one-sentence : (q r : Reason) → number_of q ≡ number_of r → sentence q ≡ sentence r
one-sentence q r e = ap sentence (own-number q r e)
