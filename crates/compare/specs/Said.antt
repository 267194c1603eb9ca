-- What is said on standard error, for people: a refusal in words and, where it is asked for, what was decided.
-- Assumes nothing.
use Rattle.std.specs.Prelude.{Bool, cond, List, [], ◌++◌, ℕ, ◌+◌, eqb, length, get_or, take, Result, Ok, Err}
use Prim.Native.Char.{code}
use Rattle.slices.specs.declared.Refusal.{Refusal}
use Rattle.slices.specs.Tables.{rows}
use Rattle.slices.specs.Texts.{bytes}
use Rattle.fdfa.specs.Inclusion as model
use Rattle.numbers.specs.Digits.{field}
use Rattle.standing.specs.declared.Standing.{Standing}
use Rattle.lasso_search.specs.Lassos.{prefix_of, period_of}
use Rattle.inclusion.specs.declared.Comparison.{Comparison}
use Rattle.inclusion.specs.declared.Outcome.{Outcome}
use Rattle.inclusion.specs.declared.Outcome.TheVariants.{Absent, Found}
use Rattle.inclusion.specs.Outcomes.{numbers_of, is_absent}
use Rattle.sheet_forms.specs.Forms.{form_in_value, is_text_of}
use Rattle.wording.specs.Words.{File, refusal_words_of}
use Rattle.compare_files.specs.Decided.{decided}

-- The scenes of a word in a line, or that there are none.
abbrev pub ending : ℕ → ℕ → ℕ
ending m i = cond (eqb (i + 1) m) (code "\n") (code " ")

unfoldable pub scenes_of : List ℕ → List ℕ
scenes_of w = rows (length w) (λ i. field (get_or w i 0) (ending (length w) i))

abbrev pub scene_line : List ℕ → List ℕ
scene_line w = cond (eqb (length w) 0) (bytes "none\n") (scenes_of w)

-- Where a sheet stands.
abbrev pub standing_words : List ℕ → Standing → List ℕ
standing_words name x =
    name ++ bytes " waits at place " ++ field x.waits (code " ")
    ++ bytes "and ends at loop place " ++ field x.ends (code "\n")

-- Words before the first name, between the two, and after the second.
abbrev pub names_text : List ℕ → List ℕ → List ℕ → List ℕ → List ℕ
names_text before one two end = before ++ one ++ bytes " and rejected by " ++ two ++ end

abbrev pub contained_words : List ℕ → List ℕ → List ℕ
contained_words one two =
    names_text (bytes "contained: no show that closes in both sheets is accepted by ") one two
    (bytes ", however long (if both are steady: no show at all)\n")

abbrev pub missing_words : List ℕ → List ℕ → Comparison → List ℕ → List ℕ → List ℕ
missing_words one two z u v =
    names_text (bytes "missing: this show closes in both sheets, is accepted by ") one two (bytes ":\n")
    ++ (bytes "opening: " ++ scene_line u) ++ (bytes "loop: " ++ scene_line v)
    ++ standing_words one z.first ++ standing_words two z.second

-- What was decided.
abbrev pub decided_words : List ℕ → List ℕ → model.Comparison → List ℕ
decided_words one two C =
    cond (is_absent C.witness) (contained_words one two)
    (missing_words one two (numbers_of C) (prefix_of C.witness) (period_of C.witness))

abbrev pub said_of : Bool → File → File → Result model.Comparison Refusal → List ℕ
said_of explain one two (Ok C) = cond explain (decided_words one.name two.name C) []
said_of explain one two (Err r) = refusal_words_of (bytes "compare") one two r

-- A file as it is named, with its bytes; whether it has lines is told by its form.
abbrev pub file_in : Bool → List ℕ → List ℕ → File
file_in any name b = record { name = name; held = b; lined = is_text_of (form_in_value any b) }

abbrev pub message_text : Bool → Bool → List ℕ → List ℕ → List ℕ → List ℕ → List ℕ
message_text any explain one b two c = said_of explain (file_in any one b) (file_in any two c) (decided any b c)

-- Of inner functions, for the answer of the code: the show is what was written to the slices.
abbrev pub outcome_words : List ℕ → List ℕ → List ℕ → List ℕ → Outcome → List ℕ
outcome_words one two opening period (Absent z) = contained_words one two
outcome_words one two opening period (Found z) =
    missing_words one two z (take z.prefix opening) (take z.period period)

abbrev pub asked_words : Bool → List ℕ → List ℕ → List ℕ → List ℕ → Outcome → List ℕ
asked_words explain one two opening period x = cond explain (outcome_words one two opening period x) []

abbrev pub outcome_said : Bool → File → File → List ℕ → List ℕ → Result Outcome Refusal → List ℕ
outcome_said explain one two opening period (Ok x) = asked_words explain one.name two.name opening period x
outcome_said explain one two opening period (Err r) = refusal_words_of (bytes "compare") one two r
