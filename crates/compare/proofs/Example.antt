-- What the comparison of sheet A with sheet B of 01 prints, whole, and which number of the last block stands where. Assumes nothing.
use Rattle.std.specs.Prelude.{Ok}
use mathlib.Core.Path.{◌≡◌, refl}
use mathlib.Core.List.{[], ◌∷◌}
use Prim.Native.Nat.{ℕ}
use Rattle.slices.specs.Tables.{rows}
use Rattle.slices.specs.Texts.{bytes}
use Rattle.numbers.specs.Digits.{digits_within, digits_of}
use Rattle.lasso_text.specs.Text.{letter_lines, lasso_text_of}
use Rattle.inclusion.specs.declared.Outcome.TheVariants.{Found}
use Rattle.compare.specs.Text.{standing_block, comparison_text_of}

pub a-in-b : comparison_text_of
    (Ok (Found (record { reached = 1; prefix = 0; period = 1; first = record { waits = 0; ends = 0 }; second = record { waits = 0; ends = 0 } }))) [] (1 ∷ [])
    ≡ bytes "verdict reached opening loop\nmissing 1 0 1\npart scene\nloop 1\nwaits ends\n0 0\n0 0\n"
unfolding lasso_text_of letter_lines rows digits_of digits_within
a-in-b = refl

pub last_block : (r u v : ℕ)
    → standing_block (record { reached = r; prefix = u; period = v; first = record { waits = 2; ends = 1 }; second = record { waits = 3; ends = 4 } })
    ≡ bytes "waits ends\n2 1\n3 4\n"
unfolding digits_of digits_within
last_block r u v = refl
