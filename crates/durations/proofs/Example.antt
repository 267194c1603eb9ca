-- What is said of a scene that has no seconds, byte for byte. Assumes nothing.
use mathlib.Core.Path.{◌≡◌, refl}
use Rattle.slices.specs.Texts.{bytes}
use Rattle.numbers.specs.Digits.{digits_within, digits_of}
use Rattle.durations.specs.Said.{untimed_words}

pub untimed-line : untimed_words (bytes "old.txt") (bytes "show.txt") (record { line = 12; column = 6 })
    ≡ bytes "show.txt:12:6: refusal 9: this scene has no seconds, old.txt is a text of level three\n"
unfolding digits_of digits_within
untimed-line = refl
