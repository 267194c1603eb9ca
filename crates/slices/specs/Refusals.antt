-- Refusals: what a definition of a call says where its input is at fault. Assumes nothing.
use Rattle.std.specs.Prelude.{Bool, true, false, ℕ, ltb, Result, Ok, Err}
use Rattle.slices.specs.declared.Part.{Part}
use Rattle.slices.specs.declared.Reason.{Reason}
use Rattle.slices.specs.declared.Reason.TheVariants.{SheetLength, LetterCount, StateCount, ProgressSize, NextState}
use Rattle.slices.specs.declared.Reason.TheVariants.{MarkByte, LettersDiffer, EmptyLoop, UnknownLetter, UnknownLevel}
use Rattle.slices.specs.declared.Reason.TheVariants.{OffLayout, OutOfTurn, NoneAccepting, SecondsRange, ProductSize}
use Rattle.slices.specs.declared.Reason.TheVariants.{TooLittleRoom, TooFewCells, FoundTooLong, CursorPastEnd}
use Rattle.slices.specs.declared.Reason.TheVariants.{FileTooLong, PartTooLong, CartCount, CartLength}
use Rattle.slices.specs.declared.Refusal.{Refusal}

-- The number of each reason, by which it is known outside.
abbrev pub number_of : Reason → ℕ
number_of SheetLength = 1
number_of LetterCount = 2
number_of StateCount = 3
number_of ProgressSize = 4
number_of NextState = 5
number_of MarkByte = 6
number_of LettersDiffer = 7
number_of EmptyLoop = 8
number_of UnknownLetter = 9
number_of UnknownLevel = 10
number_of OffLayout = 11
number_of OutOfTurn = 12
number_of NoneAccepting = 13
number_of SecondsRange = 14
number_of ProductSize = 20
number_of TooLittleRoom = 21
number_of TooFewCells = 22
number_of FoundTooLong = 23
number_of CursorPastEnd = 24
number_of FileTooLong = 25
number_of PartTooLong = 26
number_of CartCount = 27
number_of CartLength = 28

pub data Fault : Type 0 where
  sound : Fault
  fault : Refusal → Fault

-- The refusal with a reason, part and place.
abbrev pub fault_of : Reason → Part → ℕ → Fault
fault_of reason part place = fault (record { reason = reason; part = part; place = place })

infixr 30 ◌then◌
-- The tests of a call in their order: the first that is met is the refusal.
abbrev pub ◌then◌ : Fault → Fault → Fault
sound then g = g
fault r then g = fault r

-- A row of the table: met when the test holds, with its reason, part and place.
abbrev pub when : Bool → Reason → Part → ℕ → Fault
when true reason part place = fault_of reason part place
when false reason part place = sound

-- A lent slice of `room` cells has too few for `need`.
abbrev pub short : Part → ℕ → ℕ → Fault
short part room need = when (ltb room need) TooLittleRoom part need

-- What a call says: its answer, or the refusal.
abbrev pub unless : {A : Type 0} → Fault → A → Result A Refusal
unless sound a = Ok a
unless (fault r) a = Err r

-- An answer turned into another; a refusal stays.
abbrev pub mapped : {A B : Type 0} → (A → B) → Result A Refusal → Result B Refusal
mapped f (Ok a) = Ok (f a)
mapped f (Err r) = Err r

-- What a result is refused for.
abbrev pub fault_in : {A : Type 0} → Result A Refusal → Fault
fault_in (Ok a) = sound
fault_in (Err r) = fault r
