-- A format is data: fixed bytes, and numbers each with the byte that ends it, where the column that judges a number,
-- and what follows it, may depend on it. It is read from left to right, so that what is refused first is refused at the
-- smallest place. Assumes nothing.
use Rattle.slices.specs.declared.Reason.{Reason}
use Rattle.slices.specs.declared.Reason.TheVariants.{OffLayout}
use Rattle.std.specs.Prelude.{Result, Ok, Err}
use Rattle.slices.specs.declared.Refusal.{Refusal}
use Rattle.std.specs.Prelude.{◌≡◌, Bool, true, cond, ◌&&◌, List, [], ◌∷◌, ◌++◌, ℕ, zero, suc, ◌+◌, ◌≤◌, ◌<◌, eqb, ltb}
use Rattle.std.specs.Prelude.{length, get_or}
use Prim.Native.Char.{code}
use Rattle.slices.specs.declared.Part.{Part}
use Rattle.slices.specs.Refusals.{mapped}
use Rattle.slices.specs.Scans.{outside}
use Rattle.numbers.specs.declared.Number.{Number}
use Rattle.numbers.specs.Digits.{digits_of}
use Rattle.numbers.specs.Numerals.{number_at_value}
use Rattle.format.specs.declared.Column.{Column}

pub data Format : Type 0 where
  done : Format
  byte : ℕ → Format → Format
  num : (ℕ → Column) → ℕ → (ℕ → Format) → Format

-- What reading finds: the numbers, in their order, and the place after the text of the format.
pub record Found : Type 0 where
  pub values : List ℕ
  pub next : ℕ

-- The numbers found before.
abbrev pub after : List ℕ → Result Found Refusal → Result Found Refusal
after d x = mapped (λ (f : Found). record { values = d ++ f.values; next = f.next }) x

abbrev pub refused_at : {A : Type 0} → Reason → Part → ℕ → Result A Refusal
refused_at reason part place = Err (record { reason = reason; part = part; place = place })

-- The byte that is due stands at a place.
abbrev pub stands : List ℕ → ℕ → ℕ → Bool
stands t c at = ltb at (length t) && eqb (get_or t at 0) c

-- A number of good form is judged at its first byte, before the byte after it.
abbrev pub judged : Part → List ℕ → (ℕ → Column) → ℕ → ℕ → Result Number Refusal → (ℕ → ℕ → Result Found Refusal)
    → Result Found Refusal
judged part t c end at (Err r) go = Err r
judged part t c end at (Ok n) go =
    cond (outside (c n.value).low (c n.value).limit n.value) (refused_at (c n.value).reason part at)
    (cond (stands t end n.next) (go n.value (n.next + 1)) (refused_at OffLayout part n.next))

-- Reading a text from a place on; what is no text of the format is off the layout, at the byte that departs from it.
unfoldable pub reading : Part → List ℕ → Format → ℕ → Result Found Refusal
reading part t done at = Ok (record { values = []; next = at })
reading part t (byte c f) at = cond (stands t c at) (reading part t f (at + 1)) (refused_at OffLayout part at)
reading part t (num c end f) at =
    judged part t c end at (number_at_value part t at) (λ v next. after (v ∷ []) (reading part t (f v) next))

-- The text of some numbers.
unfoldable pub printed : Format → List ℕ → List ℕ
printed done vs = []
printed (byte c f) vs = c ∷ printed f vs
printed (num c end f) [] = []
printed (num c end f) (v ∷ vs) = digits_of v ++ (end ∷ printed (f v) vs)

-- A number that a column takes: of at most three digits, which the byte after it ends.
pub record Takes (c : Column) (end v : ℕ) : Type 0 where
  pub low : c.low ≤ v
  pub high : v < c.limit
  pub small : v < 1000
  pub ends : outside (code "0") (code "9" + 1) end ≡ true

-- The numbers are those of a text of the format.
unfoldable pub Fits : Format → List ℕ → Type 0
Fits done [] = Unit {0}
Fits done (v ∷ vs) = ⊥
Fits (byte c f) vs = Fits f vs
Fits (num c end f) [] = ⊥
Fits (num c end f) (v ∷ vs) = Takes (c v) end v × Fits (f v) vs

-- One format after another, which may depend on the numbers of the first.
unfoldable pub seq : Format → (List ℕ → Format) → Format
seq done g = g []
seq (byte c f) g = byte c (seq f g)
seq (num c end f) g = num c end (λ v. seq (f v) (λ vs. g (v ∷ vs)))

-- Repetition with a known count: f 0, .., f (m − 1).
unfoldable pub each : ℕ → (ℕ → Format) → Format
each zero f = done
each (suc m) f = seq (each m f) (λ vs. f m)

-- The same where each step may depend on the numbers of those before it.
unfoldable pub chained : ℕ → (ℕ → List ℕ → Format) → Format
chained zero f = done
chained (suc m) f = seq (chained m f) (f m)

-- A fixed text.
abbrev pub literal : List ℕ → Format
literal x = each (length x) (λ i. byte (get_or x i 0) done)
