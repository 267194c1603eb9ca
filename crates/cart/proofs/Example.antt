-- What is printed for a show that is rejected, and what is said, byte for byte. Assumes nothing.
use Rattle.slices.specs.declared.Reason.TheVariants.{UnknownLetter}
use Rattle.std.specs.Prelude.{Ok}
use mathlib.Core.Path.{◌≡◌, refl}
use Rattle.slices.specs.declared.Part.TheVariants.{Loop}
use Rattle.slices.specs.Texts.{bytes}
use Rattle.numbers.specs.Digits.{digits_within, digits_of}
use Rattle.carts.specs.declared.Loading.TheVariants.{Rejected}
use Rattle.wording.specs.Words.{sentence, show_words_of}
use Rattle.cart.specs.Text.{load_text}
use Rattle.cart.specs.Said.{unknown_words, rejected_words, one_words}

pub rejected-lines : load_text (Ok (Rejected 12)) ≡ bytes "rejected\n12\n"
unfolding digits_of digits_within
rejected-lines = refl

pub rejected-line : rejected_words (bytes "turn.txt") (bytes "old.txt") ≡ bytes "turn.txt: rejected by old.txt\n"
rejected-line = refl

pub one_line : one_words (bytes "old.txt") ≡ bytes "cart: CART and old.txt are one file, nothing is made\n"
one_line = refl

-- The third scene of a loop, behind two opening lines.
pub unknown-line : unknown_words (bytes "turn.txt") (record { show = 1; openings = 2; place = 2 }) (record { reason = UnknownLetter; part = Loop; place = 23 })
    ≡ bytes "turn.txt:6:6: refusal 9: this scene is not below the number of scenes\n"
unfolding digits_of digits_within sentence show_words_of
unknown-line = refl
