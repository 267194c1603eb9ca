-- The text of sheet B of 01 at both levels, whole. Assumes nothing.
use mathlib.Core.Path.{◌≡◌, refl}
use mathlib.Core.List.{List, [], ◌∷◌}
use Prim.Native.Nat.{ℕ}
use Rattle.slices.specs.Tables.{tab, rows, sum}
use Rattle.slices.specs.Texts.{bytes}
use Rattle.packed.specs.Layout.{progress_at_value}
use Rattle.numbers.specs.Digits.{digits_within, digits_of}
use Rattle.format.specs.Format.{printed, seq, each}
use Rattle.format.specs.Rows.{row}
use Rattle.blocks.specs.Text.{seconds_title, timed, seconds_format, parts_format, seconds_of, leading_of, parts_of, text_of}

abbrev pub B : List ℕ
B = 2 ∷ 1 ∷ 2 ∷ 0 ∷ 0 ∷ 1 ∷ 0 ∷ 1 ∷ 1 ∷ 0 ∷ 1 ∷ []

-- at level three no seconds are looked at
pub text-of-B : (w : List ℕ) → text_of 3 w B
    ≡ bytes "level scenes places\n3 2 1\nplace loops s0 s1\n0 2 0 0\nplace loop mark s0 s1\n0 0 0 1 0\n0 1 1 1 1\n"
unfolding text_of seconds_title timed seconds_format parts_format seconds_of leading_of parts_of printed seq each row digits_of digits_within rows tab progress_at_value sum
text-of-B w = refl

pub text-of-B-at-four : text_of 4 (1 ∷ 999 ∷ []) B
    ≡ bytes "level scenes places\n4 2 1\nscene seconds\n0 1\n1 999\nplace loops s0 s1\n0 2 0 0\nplace loop mark s0 s1\n0 0 0 1 0\n0 1 1 1 1\n"
unfolding text_of seconds_title timed seconds_format parts_format seconds_of leading_of parts_of printed seq each row digits_of digits_within rows tab progress_at_value sum
text-of-B-at-four = refl
