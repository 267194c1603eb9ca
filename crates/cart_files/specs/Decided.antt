-- What the cart program decides of the bytes that came of its files, up to 65,537 of each: a sheet in any form, and the
-- texts of shows. Assumes nothing.
use Rattle.slices.specs.declared.Refusal.{Refusal}
use Rattle.std.specs.Prelude.{List, [], ◌∷◌, ℕ, length, Result, Ok, Err}
use Rattle.slices.specs.declared.Part.TheVariants.{First, Second}
use Rattle.slices.specs.Refusals.{Fault, sound, ◌then◌}
use Rattle.fdfa.specs.Family.{Words}
use Rattle.sheet_forms.specs.Forms.{sheet_from}
use Rattle.lasso_text.specs.Reading.{words_in, read_fault}
use Rattle.show_files.specs.Shown.{shown}
use Rattle.carts.specs.Layout.{show_bytes, cart_bytes}
use Rattle.carts.specs.declared.Loading.{Loading}
use Rattle.carts.specs.Loads.{load_of}
use Rattle.console.specs.Files.{length_fault, after}

-- What the first text is refused for that a test refuses.
unfoldable pub first_fault : (List ℕ → Fault) → List (List ℕ) → Fault
first_fault test [] = sound
first_fault test (t ∷ ts) = test t then first_fault test ts

-- A text that is too long, the second file as every show's; then the text itself, with room for 4,096 letters of each
-- part.
abbrev pub long_test : List ℕ → Fault
long_test t = length_fault Second (length t)

abbrev pub text_test : List ℕ → Fault
text_test t = read_fault (shown t) 4096 4096

abbrev pub too_long_fault : List (List ℕ) → Fault
too_long_fault ts = first_fault long_test ts

abbrev pub texts_fault : List (List ℕ) → Fault
texts_fault ts = first_fault text_test ts

-- The show of a text, and the cart of the shows of some texts.
abbrev pub show_of : List ℕ → List ℕ
show_of t = show_bytes (words_in (shown t))

unfoldable pub shows_in : List (List ℕ) → List Words
shows_in [] = []
shows_in (t ∷ ts) = words_in (shown t) ∷ shows_in ts

abbrev pub cart_of : List (List ℕ) → List ℕ
cart_of ts = cart_bytes (shows_in ts)

-- The sheet is refused before the texts; then it judges their cart, for which there is room.
abbrev pub of_sheet : Result (List ℕ) Refusal → List (List ℕ) → Result Loading Refusal
of_sheet (Err r) ts = Err r
of_sheet (Ok b) ts = after (texts_fault ts) (load_of b (cart_of ts) (length (cart_of ts)))

-- Files that are too long are refused before all else.
unfoldable pub decided : List ℕ → List (List ℕ) → Result Loading Refusal
decided b ts = after (length_fault First (length b) then too_long_fault ts) (of_sheet (sheet_from First b) ts)
