-- All reasons: what is of each its own, and their numbers. Assumes nothing.
use mathlib.Core.Path.{◌≡◌, refl, ap, sym, ◌∙◌}
use mathlib.Core.Bool.{Bool, cond}
use mathlib.Core.List.{List, [], ◌∷◌, map}
use Prim.Native.Nat.{ℕ}
use lib.Dec.{eqb}
use Rattle.slices.specs.declared.Reason.{Reason}
use Rattle.slices.specs.declared.Reason.TheVariants.{SheetLength, LetterCount, StateCount, ProgressSize, NextState}
use Rattle.slices.specs.declared.Reason.TheVariants.{MarkByte, LettersDiffer, EmptyLoop, UnknownLetter, UnknownLevel}
use Rattle.slices.specs.declared.Reason.TheVariants.{OffLayout, OutOfTurn, NoneAccepting, SecondsRange, ProductSize}
use Rattle.slices.specs.declared.Reason.TheVariants.{TooLittleRoom, TooFewCells, FoundTooLong, CursorPastEnd}
use Rattle.slices.specs.declared.Reason.TheVariants.{FileTooLong, PartTooLong, CartCount, CartLength}
use Rattle.slices.specs.Refusals.{number_of}

-- All reasons, by rising number.
abbrev pub reasons : List Reason
reasons =
    SheetLength ∷ LetterCount ∷ StateCount ∷ ProgressSize ∷ NextState ∷ MarkByte ∷ LettersDiffer ∷ EmptyLoop ∷ UnknownLetter
    ∷ UnknownLevel ∷ OffLayout ∷ OutOfTurn ∷ NoneAccepting ∷ SecondsRange ∷ ProductSize ∷ TooLittleRoom ∷ TooFewCells
    ∷ FoundTooLong ∷ CursorPastEnd ∷ FileTooLong ∷ PartTooLong ∷ CartCount ∷ CartLength ∷ []

-- the first of some reasons that has a key
unfoldable pub keyed : {A : Type 0} → (A → A → Bool) → (Reason → A) → List Reason → A → Reason
keyed same key [] k = CartLength
keyed same key (q ∷ qs) k = cond (same (key q) k) q (keyed same key qs k)

-- Where each reason is found by its key, each has a key of its own.
pub own-key : {A : Type 0} (same : A → A → Bool) (key : Reason → A) → ((q : Reason) → keyed same key reasons (key q) ≡ q)
    → (q r : Reason) → key q ≡ key r → q ≡ r
own-key same key found q r e = sym (found q) ∙ (ap (keyed same key reasons) e ∙ found r)

-- The number of each reason, in the order above.
pub listed-numbers : map number_of reasons
    ≡ 1 ∷ 2 ∷ 3 ∷ 4 ∷ 5 ∷ 6 ∷ 7 ∷ 8 ∷ 9 ∷ 10 ∷ 11 ∷ 12 ∷ 13 ∷ 14 ∷ 20 ∷ 21 ∷ 22 ∷ 23 ∷ 24 ∷ 25 ∷ 26 ∷ 27 ∷ 28 ∷ []
listed-numbers = refl

found-number : (q : Reason) → keyed eqb number_of reasons (number_of q) ≡ q
unfolding keyed
found-number SheetLength = refl
found-number _ = refl

-- Every reason has a number of its own.
pub own-number : (q r : Reason) → number_of q ≡ number_of r → q ≡ r
own-number = own-key eqb number_of found-number
