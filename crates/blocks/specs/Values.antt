-- What inner functions need and do of the numbers of a text before they are packed. Assumes nothing.
use Rattle.slices.specs.declared.Refusal.{Refusal}
use Rattle.std.specs.Prelude.{◌≡◌, List, ℕ, ◌+◌, ◌*◌, ◌<◌, length, Result, Ok}
use Rattle.slices.specs.Refusals.{mapped}
use Rattle.slices.specs.Filling.{written}
use Rattle.slices.specs.Tables.{sum}
use Rattle.packed.specs.Layout.{Packable}
use Rattle.format.specs.Format.{Format, Fits, seq}
use Rattle.blocks.specs.Text.{counts_format, leading_format, letters_in, states_in, size_in, parts_format}
use Rattle.blocks.specs.Numbers.{Blocks, progress_in, family_of}

-- The front as one format: the counts, then the leading automaton. In a text the seconds may stand between.
unfoldable pub front_format : Format
front_format = seq counts_format (λ c. leading_format (letters_in c) (states_in c))

-- Numbers that are a sheet's: as many as it has, counts from 1 to 32, next states within their automaton, marks 0 or 1.
pub record Readable (front parts : List ℕ) : Type 0 where
  pub packable : Packable (family_of front parts)
  pub marks : (q p : ℕ) → q < states_in front → p < size_in front q → progress_in front parts q p 2 < 2
  pub front_length : length front ≡ 3 + states_in front * (letters_in front + 2)
  pub parts_length : length parts ≡ sum (states_in front) (size_in front) * (letters_in front + 3)

-- Numbers that were read fit the formats of their blocks, those of the seconds apart.
pub record Whole (front parts : List ℕ) : Type 0 where
  pub first : Fits front_format front
  pub second : Fits (parts_format front) parts

-- The blocks before the last were read to the starts of two lent slices; a refusal leaves their cells open.
pub record ReadsBlocks (x : Result Blocks Refusal) (front front' seconds seconds' : List ℕ) (r : Result ℕ Refusal)
    : Type 0 where
  pub says : r ≡ mapped (λ (b : Blocks). b.next) x
  pub front_same : length front' ≡ length front
  pub seconds_same : length seconds' ≡ length seconds
  pub cells : (b : Blocks) → x ≡ Ok b → (front' ≡ written b.front front) × (seconds' ≡ written b.timings seconds)
