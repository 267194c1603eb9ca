-- What is printed and said for an answer of the code, with what was written to the slices, is what is printed and said for what was decided.
-- Assumes nothing.
use Rattle.std.specs.Prelude.{Result, Ok, Err}
use Rattle.slices.specs.declared.Refusal.{Refusal}
use mathlib.Core.Path.{◌≡◌, ap, sym, ◌∙◌}
use mathlib.Core.Bool.{Bool, cond}
use mathlib.Core.List.{List, [], ◌++◌}
use Prim.Native.Nat.{ℕ}
use lib.ListN.{length}
use Rattle.slices.specs.Texts.{bytes}
use Rattle.slices.proofs.Refusals.{never-given, given-was, refused-was}
use Rattle.fdfa.specs.Inclusion as model
use Rattle.lasso_text.specs.Text.{lasso_text_of}
use Rattle.lasso_search.specs.Lassos.{prefix_of, period_of}
use Rattle.inclusion.specs.declared.Outcome.{Outcome}
use Rattle.inclusion.specs.declared.Outcome.TheVariants.{Absent, Found}
use Rattle.inclusion.proofs.Settling.{answered-by}
use Rattle.console.specs.Printed.{refusal_text_of}
use Rattle.wording.specs.Words.{File, refusal_words_of}
use Rattle.compare_files.specs.Decided.{Decides}
use Rattle.compare.specs.Text.{contained, missing, verdict_block, standing_block, answer_text, comparison_text_of, AnswerLies}
use Rattle.compare.specs.Said.{contained_words, missing_words, said_of, outcome_said}

-- of every answer: a show that was found lies within the slices
pub lies : (x : Result model.Comparison Refusal) (o p : List ℕ) (r : Result Outcome Refusal) → Decides x o p r → AnswerLies r (length o) (length p)
lies x o p (Ok (Absent z)) d = tt
lies x o p (Ok (Found z)) d = (d.holds.0, d.holds.1)
lies x o p (Err q) d = tt

-- what is printed and said of an outcome, where the show is the model's
abbrev printed_of : model.Comparison → Outcome → List ℕ
printed_of C (Absent z) = verdict_block contained z ++ standing_block z
printed_of C (Found z) = verdict_block missing z ++ lasso_text_of (prefix_of C.witness) (period_of C.witness) ++ standing_block z

abbrev spoken_of : List ℕ → List ℕ → model.Comparison → Outcome → List ℕ
spoken_of one two C (Absent z) = contained_words one two
spoken_of one two C (Found z) = missing_words one two z (prefix_of C.witness) (period_of C.witness)

pub printed-is : (x : Result model.Comparison Refusal) (o p : List ℕ) (r : Result Outcome Refusal) → Decides x o p r → comparison_text_of r o p ≡ answer_text x
printed-is (Ok C) o p (Ok (Absent z)) d = ap (printed_of C) (given-was d.says) ∙ answered-by (printed_of C) C
printed-is (Ok C) o p (Ok (Found z)) d =
    (λ i. verdict_block missing z ++ lasso_text_of (d.holds.2 i) (d.holds.3 i) ++ standing_block z)
    ∙ (ap (printed_of C) (given-was d.says) ∙ answered-by (printed_of C) C)
printed-is (Ok C) o p (Err q) d = absurd (never-given d.says)
printed-is (Err q) o p (Ok (Absent z)) d = absurd (never-given (sym d.says))
printed-is (Err q) o p (Ok (Found z)) d = absurd (never-given (sym d.says))
printed-is (Err q) o p (Err s) d = ap refusal_text_of (refused-was d.says)

pub said-is : (explain : Bool) (one two : File) (x : Result model.Comparison Refusal) (o p : List ℕ) (r : Result Outcome Refusal) → Decides x o p r → outcome_said explain one two o p r ≡ said_of explain one two x
said-is explain one two (Ok C) o p (Ok (Absent z)) d =
    let spoken = spoken_of one.name two.name C in
    ap (λ (l : List ℕ). cond explain l []) (ap spoken (given-was d.says) ∙ answered-by spoken C)
said-is explain one two (Ok C) o p (Ok (Found z)) d =
    let spoken = spoken_of one.name two.name C in
    ap (λ (l : List ℕ). cond explain l [])
    ((λ i. missing_words one.name two.name z (d.holds.2 i) (d.holds.3 i)) ∙ (ap spoken (given-was d.says) ∙ answered-by spoken C))
said-is explain one two (Ok C) o p (Err q) d = absurd (never-given d.says)
said-is explain one two (Err q) o p (Ok (Absent z)) d = absurd (never-given (sym d.says))
said-is explain one two (Err q) o p (Ok (Found z)) d = absurd (never-given (sym d.says))
said-is explain one two (Err q) o p (Err s) d = ap (refusal_words_of (bytes "compare") one two) (refused-was d.says)
