-- The cursor by numbers: the number of its part, and the position. Assumes nothing.
use Rattle.slices.specs.declared.Refusal.{Refusal}
use Rattle.std.specs.Prelude.{cond, List, [], ◌∷◌, ℕ, eqb, length, take, drop, Result}
use Rattle.slices.specs.declared.Part.TheVariants.{Opening, Loop}
use Rattle.slices.specs.Refusals.{mapped}
use Rattle.cursor.specs.declared.Phase.{Phase}
use Rattle.cursor.specs.declared.Phase.TheVariants.{Prefix, Period}
use Rattle.cursor.specs.declared.Cursor.{Cursor}
use Rattle.cursor.specs.declared.Step.{Step}
use Rattle.cursor.specs.Walking.{step_fault, if_sound, rest_of}
use Rattle.answers.specs.Layout.{part_number_of}

-- The cursor that two numbers name, and the prefix as it sees it: a part that is neither opening nor loop has no
-- letters.
abbrev pub cursor_of_value : ℕ → ℕ → Cursor
cursor_of_value part at = record { phase = cond (eqb part (part_number_of Loop)) Period Prefix; at = at }

abbrev pub prefix_for_value : ℕ → List ℕ → List ℕ
prefix_for_value part u = cond (eqb part (part_number_of Opening)) u []

abbrev pub phase_number_of : Phase → ℕ
phase_number_of Prefix = part_number_of Opening
phase_number_of Period = part_number_of Loop

abbrev pub cursor_numbers_of : Cursor → List ℕ
cursor_numbers_of c = phase_number_of c.phase ∷ c.at ∷ []

-- The letter that a step passed, and the cursor moved; or the refusal.
pub record Moved : Type 0 where
  pub letter : ℕ
  pub next : Cursor

abbrev pub step_result : Step → Result Moved Refusal
step_result s = mapped (λ letter. record { letter = letter; next = s.cursor }) s.letter

abbrev pub moved_numbers : Moved → List ℕ
moved_numbers m = m.letter ∷ cursor_numbers_of m.next

-- The rest of the word that the cursor stands in: which word, from where on, how many letters. Where a step would be
-- refused it is the empty part at the opening's start.
abbrev pub rest_numbers_of : Cursor → List ℕ → List ℕ → List ℕ
rest_numbers_of c u v =
    if_sound (step_fault c u v)
    (phase_number_of c.phase ∷ c.at ∷ length (rest_of c u v) ∷ [])
    (part_number_of Opening ∷ 0 ∷ 0 ∷ [])

-- The letters that part, offset and length tell, in the words of a lasso.
abbrev pub word_numbered : ℕ → List ℕ → List ℕ → List ℕ
word_numbered part u v = cond (eqb part (part_number_of Opening)) u v

abbrev pub letters_told : List ℕ → List ℕ → List ℕ → List ℕ
letters_told [] u v = []
letters_told (part ∷ []) u v = []
letters_told (part ∷ from ∷ []) u v = []
letters_told (part ∷ from ∷ n ∷ ns) u v = take n (drop from (word_numbered part u v))
