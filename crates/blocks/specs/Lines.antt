-- The text of a family, line by line; `text-lines` says that this is its text. Assumes nothing.
use Rattle.std.specs.Prelude.{List, ◌++◌, ℕ}
use Rattle.fdfa.specs.Family.{Fdfa}
use Rattle.slices.specs.Tables.{rows}
use Rattle.slices.specs.Texts.{bytes}
use Rattle.format.specs.Rows.{line}
use Rattle.blocks.specs.Text.{names, counts_title, seconds_title, timed, leading_title, progress_title}
use Rattle.blocks.specs.Text.{counts_of, seconds_values, leading_values_of, progress_values_of}

abbrev pub head_text : List ℕ → ℕ → List ℕ
head_text title s = (title ++ names s) ++ bytes "\n"

abbrev pub counts_text : ℕ → Fdfa → List ℕ
counts_text level F = counts_title ++ line (counts_of level F)

abbrev pub seconds_text : ℕ → ℕ → List ℕ → List ℕ
seconds_text level s w = seconds_title level ++ rows (timed level s) (λ a. line (seconds_values w a))

abbrev pub leading_text : Fdfa → List ℕ
leading_text F = head_text leading_title F.letters ++ rows F.states (λ q. line (leading_values_of F q))

abbrev pub part_text : Fdfa → ℕ → List ℕ
part_text F q = rows (F.size q) (λ p. line (progress_values_of F q p))

abbrev pub progress_text : Fdfa → List ℕ
progress_text F = head_text progress_title F.letters ++ rows F.states (part_text F)

abbrev pub lines_of : ℕ → List ℕ → Fdfa → List ℕ
lines_of level w F = counts_text level F ++ (seconds_text level F.letters w ++ (leading_text F ++ progress_text F))
