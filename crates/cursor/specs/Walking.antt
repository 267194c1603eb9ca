-- A cursor over the infinite word of a lasso: which of the two words it stands in, and the position there. Assumes
-- nothing.
use Rattle.slices.specs.declared.Reason.TheVariants.{EmptyLoop, CursorPastEnd}
use Rattle.std.specs.Prelude.{cond, List, [], ℕ, zero, suc, ◌+◌, eqb, ltb, leb, length, get_or, drop}
use Rattle.slices.specs.declared.Part.TheVariants as part
use Rattle.slices.specs.Refusals.{Fault, sound, fault, ◌then◌, when, unless}
use Rattle.cursor.specs.declared.Phase.{Phase}
use Rattle.cursor.specs.declared.Phase.TheVariants.{Prefix, Period}
use Rattle.cursor.specs.declared.Cursor.{Cursor}
use Rattle.cursor.specs.declared.Step.{Step}

-- The start: position 0 of the prefix, or of the period where the prefix is empty.
abbrev pub start_of : List ℕ → Cursor
start_of u = record { phase = cond (eqb (length u) 0) Period Prefix; at = 0 }

-- The word that the cursor stands in.
abbrev pub word_of : Phase → List ℕ → List ℕ → List ℕ
word_of Prefix u v = u
word_of Period u v = v

abbrev pub named : Cursor → List ℕ → List ℕ → List ℕ
named c u v = word_of c.phase u v

-- What a step is refused for: the period is empty, then the position is not below the length of its word.
abbrev pub step_fault : Cursor → List ℕ → List ℕ → Fault
step_fault c u v =
    when (eqb (length v) 0) EmptyLoop part.Loop 0
    then when (leb (length (named c u v)) c.at) CursorPastEnd part.Cursor c.at

-- One letter further in a word: after the last of either word comes position 0 of the period.
abbrev pub next_in : Cursor → List ℕ → Cursor
next_in c w = cond (ltb (c.at + 1) (length w)) (record { phase = c.phase; at = c.at + 1 })
    (record { phase = Period; at = 0 })

abbrev pub next_of : Cursor → List ℕ → List ℕ → Cursor
next_of c u v = next_in c (named c u v)

-- The first where a step would not be refused, else the second.
abbrev pub if_sound : {A : Type 0} → Fault → A → A → A
if_sound sound a b = a
if_sound (fault r) a b = b

-- A step from c: the letter that it passes or the refusal, and the cursor moved, or c as it was.
abbrev pub unless_stays : Fault → Cursor → ℕ → Cursor → Step
unless_stays f c letter next = record { letter = unless f letter; cursor = if_sound f next c }

abbrev pub stepped : Cursor → List ℕ → List ℕ → Step
stepped c u v = unless_stays (step_fault c u v) c (get_or (named c u v) c.at 0) (next_of c u v)

-- The rest of the word that the cursor stands in, or nothing where a step would be refused.
abbrev pub rest_of : Cursor → List ℕ → List ℕ → List ℕ
rest_of c u v = if_sound (step_fault c u v) (drop c.at (named c u v)) []

-- Where it lies in the caller's memory, by block and offset, given where prefix and period lie: the empty part is at
-- the prefix's start.
abbrev pub lies : Phase → ℕ × ℕ → ℕ × ℕ → ℕ × ℕ
lies Prefix p q = p
lies Period p q = q

abbrev pub rest_lies : Cursor → List ℕ → List ℕ → ℕ × ℕ → ℕ × ℕ → ℕ × ℕ
rest_lies c u v p q = if_sound (step_fault c u v) ((lies c.phase p q).0, (lies c.phase p q).1 + c.at) p

-- The cursor after m steps from the start.
unfoldable pub cursor_after : List ℕ → List ℕ → ℕ → Cursor
cursor_after u v zero = start_of u
cursor_after u v (suc m) = next_of (cursor_after u v m) u v
