-- What a program prints, as bytes (01): numbers in the digits they need, and refusals. Assumes nothing.
use Rattle.std.specs.Prelude.{◌≡◌, List, ◌++◌, ℕ, ◌≤◌, length}
use Prim.Native.Char.{code}
use Rattle.slices.specs.declared.Part.{Part}
use Rattle.slices.specs.declared.Part.TheVariants.{First, Second, Opening, Loop, Out, Work, Cursor, Seconds}
use Rattle.slices.specs.declared.Refusal.{Refusal}
use Rattle.slices.specs.Refusals.{number_of}
use Rattle.slices.specs.Filling.{written}
use Rattle.slices.specs.Texts.{bytes}
use Rattle.numbers.specs.Digits.{field}

-- The names of the parts.
abbrev pub part_name : Part → List ℕ
part_name First = bytes "first"
part_name Second = bytes "second"
part_name Opening = bytes "opening"
part_name Loop = bytes "loop"
part_name Out = bytes "out"
part_name Work = bytes "work"
part_name Cursor = bytes "cursor"
part_name Seconds = bytes "seconds"

-- A part's name and the space that ends its field.
abbrev pub part_field : Part → List ℕ
part_field part = part_name part ++ bytes " "

abbrev pub refusal_title : List ℕ
refusal_title = bytes "refused part place\n"

-- The line of names, then the number, the part by its name, and the place.
abbrev pub refusal_text_of : Refusal → List ℕ
refusal_text_of r =
    refusal_title ++ field (number_of r.reason) (code " ") ++ part_field r.part ++ field r.place (code "\n")

-- A call filled the start of a slice with a text, and answers how long the text is.
pub record Shows (text old out : List ℕ) (n : ℕ) : Type 0 where
  pub says : n ≡ length text
  pub fits : n ≤ length old
  pub cells : out ≡ written text old
