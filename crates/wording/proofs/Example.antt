-- Refusals in words, whole: of a text by line and column, of other bytes by the byte, of no file by the program, and a
-- part of a show that is too long.
use Rattle.slices.specs.declared.Reason.TheVariants.{LetterCount, ProgressSize, NextState, TooLittleRoom, TooFewCells}
use mathlib.Core.Path.{◌≡◌, refl}
use mathlib.Core.Bool.{Bool, true, false}
use Rattle.slices.specs.declared.Part.TheVariants.{First, Second, Opening, Loop, Work}
use Rattle.slices.specs.Texts.{bytes}
use Rattle.numbers.specs.Digits.{digits_within, digits_of}
use Rattle.wording.specs.Words.{File, sentence, position_at, refusal_words_of, long_words}

abbrev file : Bool → File
file lined = record {
  name = bytes "revised.txt";
  held = bytes "level scenes places\n3 2 3\nplace loops s0 s1\n0 1 0 1\n1 1 0 3\n2 1 0 0\n";
  lined = lined;
}

abbrev other : File
other = record { name = bytes "old"; held = bytes "xy"; lined = false }

pub words :
    (refusal_words_of (bytes "compare") (file true) other (record { reason = NextState; part = First; place = 58 })
    ≡ bytes "revised.txt:5:7: refusal 5: this place is not below the number of places of its automaton\n")
    × (refusal_words_of (bytes "compare") (file true) other (record { reason = LetterCount; part = Second; place = 0 })
    ≡ bytes "old: byte 0: refusal 2: the number of scenes is not from 1 to 32\n")
    × (refusal_words_of (bytes "compare") (file true) other (record { reason = ProgressSize; part = First; place = 0 })
    ≡ bytes "revised.txt:1:1: refusal 4: the number of loop places is not from 1 to 32\n")
    × (refusal_words_of (bytes "compare") (file true) other (record { reason = TooFewCells; part = Work; place = 9000 })
    ≡ bytes "compare: refusal 22: the comparison needs more work cells than there are\n")
unfolding refusal_words_of position_at sentence digits_of digits_within
words = (refl, refl, refl, refl)

pub long :
    (long_words (bytes "show") (record { reason = TooLittleRoom; part = Opening; place = 5000 }) ≡ bytes "show: refusal 21: the opening has more than 4,096 scenes\n")
    × (long_words (bytes "show") (record { reason = TooLittleRoom; part = Loop; place = 5000 }) ≡ bytes "show: refusal 21: the loop has more than 4,096 scenes\n")
long = (refl, refl)
