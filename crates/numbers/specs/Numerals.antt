-- Numbers in a text: a run of digits, at most three, with no needless leading zero. Assumes nothing.
use Rattle.slices.specs.declared.Reason.TheVariants.{OffLayout}
use Rattle.std.specs.Prelude.{Result, Ok, Err}
use Rattle.slices.specs.declared.Refusal.{Refusal}
use Rattle.std.specs.Prelude.{Bool, cond, ◌||◌, ◌&&◌, not, List, ℕ, zero, suc, ◌+◌, ◌*◌, ◌-◌, eqb, ltb, leb, length}
use Rattle.std.specs.Prelude.{get_or}
use Prim.Native.Char.{code}
use Rattle.slices.specs.declared.Part.{Part}
use Rattle.slices.specs.Scans.{first_outside_of}
use Rattle.numbers.specs.declared.Number.{Number}

-- How many digits stand from a place on.
unfoldable pub run_of : List ℕ → ℕ → ℕ
run_of t at = first_outside_of (code "0") (code "9" + 1) t at (length t - at)

-- The value of the first r digits.
unfoldable pub value_of : List ℕ → ℕ → ℕ → ℕ
value_of t at zero = 0
value_of t at (suc r) = value_of t at r * 10 + (get_or t (at + r) 0 - code "0")

-- No digit, more than three, or a needless leading zero.
abbrev pub malformed : ℕ → ℕ → Bool
malformed run first = eqb run 0 || (ltb 3 run || (not (eqb run 1) && eqb first (code "0")))

-- A number that is badly formed departs from the layout, in the text's part.
abbrev pub misread : Part → ℕ → Result Number Refusal
misread part place = Err (record { reason = OffLayout; part = part; place = place })

-- The number at a place with the place after it. Where the text ends, it is refused at its length.
unfoldable pub number_at_value : Part → List ℕ → ℕ → Result Number Refusal
number_at_value part t at =
    cond (leb (length t) at) (misread part (length t))
    (cond (malformed (run_of t at) (get_or t at 0)) (misread part at)
    (Ok (record { value = value_of t at (run_of t at); next = at + run_of t at })))

-- The place after a number; the number's own where it is refused.
abbrev pub place_after : Result Number Refusal → ℕ → ℕ
place_after (Ok n) at = n.next
place_after (Err r) at = at
