-- What the comparison prints for each answer (01, and the last block 02), block by block. Assumes nothing.
use Rattle.std.specs.Prelude.{Bool, cond, List, ◌++◌, ℕ, ◌≤◌, take, Result, Ok, Err}
use Prim.Native.Char.{code}
use Rattle.slices.specs.declared.Refusal.{Refusal}
use Rattle.slices.specs.Texts.{bytes}
use Rattle.fdfa.specs.Inclusion as model
use Rattle.numbers.specs.Digits.{field}
use Rattle.lasso_text.specs.Text.{lasso_text_of}
use Rattle.console.specs.Printed.{refusal_text_of}
use Rattle.standing.specs.declared.Standing.{Standing}
use Rattle.lasso_search.specs.Lassos.{prefix_of, period_of}
use Rattle.inclusion.specs.declared.Comparison.{Comparison}
use Rattle.inclusion.specs.declared.Outcome.{Outcome}
use Rattle.inclusion.specs.declared.Outcome.TheVariants.{Absent, Found}
use Rattle.inclusion.specs.Outcomes.{numbers_of, is_absent}
use Rattle.compare_files.specs.Decided.{decided}

abbrev pub verdict_title : List ℕ
verdict_title = bytes "verdict reached opening loop\n"

abbrev pub contained : List ℕ
contained = bytes "contained "

abbrev pub missing : List ℕ
missing = bytes "missing "

-- The first block: the line of names, then the verdict, R and the two lengths.
abbrev pub verdict_block : List ℕ → Comparison → List ℕ
verdict_block verdict z =
    verdict_title ++ verdict ++ field z.reached (code " ") ++ field z.prefix (code " ")
    ++ field z.period (code "\n")

abbrev pub standing_title : List ℕ
standing_title = bytes "waits ends\n"

-- The line of a sheet: where it waits, and where it ends.
abbrev pub standing_line : Standing → List ℕ
standing_line x = field x.waits (code " ") ++ field x.ends (code "\n")

-- The last block: the line of names, then a line for the first sheet and one for the second.
abbrev pub standing_block : Comparison → List ℕ
standing_block z = standing_title ++ standing_line z.first ++ standing_line z.second

-- The first block, for a counter-show its text, and the last; or the refusal.
abbrev pub answer_text : Result model.Comparison Refusal → List ℕ
answer_text (Ok C) =
    cond (is_absent C.witness) (verdict_block contained (numbers_of C) ++ standing_block (numbers_of C))
    (verdict_block missing (numbers_of C)
    ++ lasso_text_of (prefix_of C.witness) (period_of C.witness) ++ standing_block (numbers_of C))
answer_text (Err r) = refusal_text_of r

-- What is printed for the bytes that came of two files, in any form or packed only.
abbrev pub program_text : Bool → List ℕ → List ℕ → List ℕ
program_text any b c = answer_text (decided any b c)

-- Of the inner function, for the answer of the code: the show is what was written to the slices.
abbrev pub comparison_text_of : Result Outcome Refusal → List ℕ → List ℕ → List ℕ
comparison_text_of (Ok (Absent z)) opening period = verdict_block contained z ++ standing_block z
comparison_text_of (Ok (Found z)) opening period =
    verdict_block missing z ++ lasso_text_of (take z.prefix opening) (take z.period period) ++ standing_block z
comparison_text_of (Err r) opening period = refusal_text_of r

-- Of inner functions: a show that was found lies within slices of these lengths.
abbrev pub Lies : Outcome → ℕ → ℕ → Type 0
Lies (Absent z) o p = Unit {0}
Lies (Found z) o p = (z.prefix ≤ o) × (z.period ≤ p)

abbrev pub AnswerLies : Result Outcome Refusal → ℕ → ℕ → Type 0
AnswerLies (Ok x) o p = Lies x o p
AnswerLies (Err r) o p = Unit {0}
