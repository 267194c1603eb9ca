-- The show of a program's second file, which is a text. Assumes nothing.
use Rattle.slices.specs.declared.Refusal.{Refusal}
use Rattle.lasso_text.specs.declared.Lengths.{Lengths}
use Rattle.std.specs.Prelude.{List, ℕ, Result, Ok, Err}
use Rattle.slices.specs.declared.Part.TheVariants.{Second}
use Rattle.slices.specs.Refusals.{unless}
use Rattle.fdfa.specs.Family.{Words}
use Rattle.lasso_text.specs.Reading.{words_of, words_in, read_fault, sizes_of}

-- The text is the second file.
abbrev pub shown : List ℕ → Result Words Refusal
shown t = words_of 32 Second t

-- How many opening lines it has; 0 where it is not read, with room for 4,096 letters of each part.
abbrev pub prefix_in : Result Lengths Refusal → ℕ
prefix_in (Ok z) = z.prefix
prefix_in (Err r) = 0

abbrev pub openings : List ℕ → ℕ
openings t = prefix_in (unless (read_fault (shown t) 4096 4096) (sizes_of (words_in (shown t))))
