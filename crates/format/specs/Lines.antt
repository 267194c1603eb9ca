-- Repetition without a known count: steps as long as a byte stands where the next one begins; so lines of a word and a
-- number. Assumes nothing.
use Rattle.slices.specs.declared.Reason.{Reason}
use Rattle.slices.specs.declared.Reason.TheVariants.{OffLayout}
use Rattle.slices.specs.declared.Refusal.{Refusal}
use Rattle.format.specs.declared.Extent.{Extent}
use Rattle.std.specs.Prelude.{◌≡◌, Bool, true, cond, not, List, ℕ, ◌+◌, eqb, length, get_or, Result, Ok, Err}
use Prim.Native.Char.{code}
use Rattle.slices.specs.declared.Part.{Part}
use Rattle.slices.specs.Extremes.{least}
use Rattle.slices.specs.Refusals.{mapped}
use Rattle.numbers.specs.Storing.{Stored}
use Rattle.format.specs.declared.Column.{Column}
use Rattle.format.specs.Format.{Format, Found, refused_at, stands, reading, seq, each, literal}
use Rattle.format.specs.Rows.{choice}

-- A word, a number, the byte that ends it.
unfoldable pub labelled : List ℕ → (ℕ → Column) → ℕ → Format
labelled word c end = seq (literal word) (λ vs. choice c end)

-- No further one is read: the byte c does not stand there, or one was refused.
abbrev pub stops : List ℕ → ℕ → Result Found Refusal → Bool
stops t c (Ok w) = not (stands t c w.next)
stops t c (Err r) = true

-- How many steps are read, the one that is refused among them; g m is the format of m steps.
unfoldable pub repeats : Part → List ℕ → ℕ → (ℕ → Format) → ℕ → ℕ
repeats part t c g at = least (length t + 2) (λ m. stops t c (reading part t (g m) at))

-- Step after step, as long as the byte c stands.
unfoldable pub repeated : Part → List ℕ → ℕ → (ℕ → Format) → ℕ → Result Found Refusal
repeated part t c g at = reading part t (g (repeats part t c g at)) at

-- Lines of a word and a number.
abbrev pub lines : List ℕ → Column → ℕ → Format
lines word c m = each m (λ i. labelled word (λ v. c) (code "\n"))

abbrev pub lines_at : Part → List ℕ → List ℕ → Column → ℕ → Result Found Refusal
lines_at part t word c at = repeated part t (get_or word 0 0) (lines word c) at

-- After its last lines, whose numbers are turned into an answer, a text ends: a byte there is off the layout. A text
-- that has none of these lines is refused, at its length, for a reason of its own.
abbrev pub closing : {A : Type 0} → Part → List ℕ → Reason → (List ℕ → A) → Result Found Refusal → Result A Refusal
closing part t reason f (Err r) = Err r
closing part t reason f (Ok w) =
    cond (eqb w.next (length t))
    (cond (eqb (length w.values) 0) (refused_at reason part (length t)) (Ok (f w.values)))
    (refused_at OffLayout part w.next)

abbrev pub extent : Result Found Refusal → Result Extent Refusal
extent x = mapped (λ (w : Found). record { count = length w.values; next = w.next }) x

-- The numbers of the lines are at the start of a lent slice, each where there is room for it; a refusal leaves its
-- cells open.
pub record LinesRead (x : Result Found Refusal) (old new : List ℕ) (r : Result Extent Refusal) : Type 0 where
  pub says : r ≡ extent x
  pub same : length new ≡ length old
  pub cells : (w : Found) → x ≡ Ok w → Stored old 0 w.values new (length w.values)
