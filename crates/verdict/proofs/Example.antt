-- What is printed for a verdict, byte for byte: which number stands where. Assumes nothing.
use Rattle.std.specs.Prelude.{Ok}
use mathlib.Core.Path.{◌≡◌, refl}
use mathlib.Core.Bool.{true, false}
use Rattle.slices.specs.Texts.{bytes}
use Rattle.numbers.specs.Digits.{digits_within, digits_of}
use Rattle.verdict.specs.Text.{verdict_text_of}

pub accepted-line : verdict_text_of (Ok (record { accepted = true; i = 1; j = 2; state = 3; end = 4 }))
    ≡ bytes "verdict i j place end\naccepted 1 2 3 4\n"
unfolding digits_of digits_within
accepted-line = refl

pub rejected-line : verdict_text_of (Ok (record { accepted = false; i = 0; j = 1; state = 2; end = 13 }))
    ≡ bytes "verdict i j place end\nrejected 0 1 2 13\n"
unfolding digits_of digits_within
rejected-line = refl
