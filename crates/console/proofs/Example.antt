-- The refusals of two files that are too long, and the two lines of a refusal, byte for byte.
use Rattle.slices.specs.declared.Reason.TheVariants.{UnknownLetter, FileTooLong}
use mathlib.Core.Path.{◌≡◌, refl}
use Rattle.slices.specs.declared.Part.TheVariants.{First, Second, Opening, Loop, Out, Work, Cursor, Seconds}
use Rattle.slices.specs.Refusals.{sound, fault_of}
use Rattle.slices.specs.Texts.{bytes}
use Rattle.numbers.specs.Digits.{digits_within, digits_of}
use Rattle.console.specs.Files.{lengths_fault}
use Rattle.console.specs.Printed.{part_name, refusal_text_of}

-- two files that are too long: the first; the second alone; neither
pub lengths : (lengths_fault 65537 65537 ≡ fault_of FileTooLong First 65536) × (lengths_fault 65536 65537 ≡ fault_of FileTooLong Second 65536) × (lengths_fault 65536 65536 ≡ sound)
lengths = (refl, refl, refl)

pub refusal-lines : refusal_text_of (record { reason = UnknownLetter; part = Opening; place = 12 }) ≡ bytes "refused part place\n9 opening 12\n"
unfolding digits_of digits_within
refusal-lines = refl

pub names :
    (part_name First ≡ bytes "first") × (part_name Second ≡ bytes "second") × (part_name Opening ≡ bytes "opening") × (part_name Loop ≡ bytes "loop")
    × (part_name Out ≡ bytes "out") × (part_name Work ≡ bytes "work") × (part_name Cursor ≡ bytes "cursor") × (part_name Seconds ≡ bytes "seconds")
names = (refl, refl, refl, refl, refl, refl, refl, refl)
