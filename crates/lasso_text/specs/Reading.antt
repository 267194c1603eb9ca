-- Reading the text of a lasso from left to right, for any bytes: what is refused first is refused at the smallest
-- place. Assumes nothing.
use Rattle.slices.specs.declared.Reason.TheVariants.{EmptyLoop, UnknownLetter, TooLittleRoom}
use Rattle.slices.specs.declared.Refusal.{Refusal}
use Rattle.std.specs.Prelude.{◌≡◌, List, [], ℕ, ltb, length, Result, Ok, Err}
use Rattle.slices.specs.declared.Part.{Part}
use Rattle.slices.specs.declared.Part.TheVariants.{Opening, Loop}
use Rattle.slices.specs.Refusals.{Fault, ◌then◌, when, unless, fault_in}
use Rattle.slices.specs.Filling.{filled}
use Rattle.fdfa.specs.Family.{Words}
use Rattle.format.specs.declared.Column.{Column}
use Rattle.format.specs.Format.{Found, reading, literal}
use Rattle.format.specs.Rows.{below}
use Rattle.format.specs.Lines.{lines_at, closing}
use Rattle.lasso_text.specs.declared.Lengths.{Lengths}
use Rattle.lasso_text.specs.Text.{title, prefix_name, period_name}

-- A letter is below s; another is unknown.
abbrev pub letter : ℕ → Column
letter s = below s UnknownLetter

-- The lines of the period are the last; a text that has none has an empty loop.
abbrev pub ended : Part → List ℕ → List ℕ → Result Found Refusal → Result Words Refusal
ended part t u x = closing part t EmptyLoop (λ v. record { prefix = u; period = v }) x

-- After the lines of the prefix, those of the period.
abbrev pub opened : ℕ → Part → List ℕ → Result Found Refusal → Result Words Refusal
opened s part t (Err r) = Err r
opened s part t (Ok w) = ended part t w.values (lines_at part t period_name (letter s) w.next)

-- After the line of names, the lines of the prefix.
abbrev pub named : ℕ → Part → List ℕ → Result Found Refusal → Result Words Refusal
named s part t (Err r) = Err r
named s part t (Ok w) = opened s part t (lines_at part t prefix_name (letter s) w.next)

-- The words of a whole text over s letters.
unfoldable pub words_of : ℕ → Part → List ℕ → Result Words Refusal
words_of s part t = named s part t (reading part t (literal title) 0)

abbrev pub words_in : Result Words Refusal → Words
words_in (Ok w) = w
words_in (Err r) = record { prefix = []; period = [] }

-- What the text alone is refused for.
abbrev pub text_fault : Result Words Refusal → Fault
text_fault x = fault_in x

-- Too little room where the opening slice is too short, else where the period's is.
abbrev pub room_fault : Words → ℕ → ℕ → Fault
room_fault w o p =
    when (ltb o (length w.prefix)) TooLittleRoom Opening (length w.prefix)
    then when (ltb p (length w.period)) TooLittleRoom Loop (length w.period)

-- The text's fault, and only then the room.
abbrev pub read_fault : Result Words Refusal → ℕ → ℕ → Fault
read_fault x o p = text_fault x then room_fault (words_in x) o p

abbrev pub sizes_of : Words → Lengths
sizes_of w = record { prefix = length w.prefix; period = length w.period }

-- Both words are filled and their lengths said, or nothing is changed and the refusal said.
pub record LassoRead (x : Result Words Refusal) (o p o' p' : List ℕ) (r : Result Lengths Refusal) : Type 0 where
  pub says : r ≡ unless (read_fault x (length o) (length p)) (sizes_of (words_in x))
  pub opening : o' ≡ filled (read_fault x (length o) (length p)) (words_in x).prefix o
  pub period : p' ≡ filled (read_fault x (length o) (length p)) (words_in x).period p
