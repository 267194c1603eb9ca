-- What the comparison program decides of the bytes that came of two files, up to 65,537 of each. Assumes nothing.
use Rattle.slices.specs.declared.Refusal.{Refusal}
use Rattle.std.specs.Prelude.{◌≡◌, Bool, List, ℕ, ◌≤◌, length, take, replicate, Result, Ok, Err}
use Rattle.slices.specs.declared.Part.TheVariants.{First, Second}
use Rattle.slices.specs.Refusals.{Fault, unless, mapped}
use Rattle.fdfa.specs.Enumeration.{Witness, absent}
use Rattle.fdfa.specs.Inclusion as model
use Rattle.packed.specs.Layout.{decode}
use Rattle.lasso_search.specs.Lassos.{prefix_of, period_of}
use Rattle.inclusion.specs.declared.Outcome.{Outcome}
use Rattle.inclusion.specs.declared.Outcome.TheVariants.{Absent, Found}
use Rattle.inclusion.specs.Outcomes.{answer_of}
use Rattle.inclusion.specs.Calls.{Slices, call_fault, compare_start}
use Rattle.sheet_forms.specs.Forms.{form_in_value, sheet_as}
use Rattle.console.specs.Files.{lengths_fault, after}

-- The slices that the program lends: 4,096 scenes for each part of a show, 8,192 cells.
abbrev pub room : Slices
room = record { opening = replicate 4096 0; period = replicate 4096 0; work = replicate 8192 0 }

-- The comparison of two packed sheets, and what it is refused for in that room.
abbrev pub compared : List ℕ → List ℕ → model.Comparison
compared b c = model.comparison (decode b) (decode c)

abbrev pub program_fault : List ℕ → List ℕ → Fault
program_fault b c = call_fault (compare_start b c (length room.work)) (compared b c) room

abbrev pub compared_in : List ℕ → List ℕ → Result model.Comparison Refusal
compared_in b c = unless (program_fault b c) (compared b c)

-- The same of the sheets of two files: the refusal of the first, of the second, then the comparison's own.
abbrev pub of_sheets : Result (List ℕ) Refusal → Result (List ℕ) Refusal → Result model.Comparison Refusal
of_sheets (Err r) y = Err r
of_sheets (Ok b) (Err r) = Err r
of_sheets (Ok b) (Ok c) = compared_in b c

-- The sheets that the files are, in any form or packed only.
abbrev pub first_sheet : Bool → List ℕ → Result (List ℕ) Refusal
first_sheet any b = sheet_as (form_in_value any b) First b

abbrev pub second_sheet : Bool → List ℕ → Result (List ℕ) Refusal
second_sheet any c = sheet_as (form_in_value any c) Second c

-- Files that are too long are refused first.
unfoldable pub decided : Bool → List ℕ → List ℕ → Result model.Comparison Refusal
decided any b c = after (lengths_fault (length b) (length c)) (of_sheets (first_sheet any b) (second_sheet any c))

-- Of inner functions: the answer of the code says what was decided, and the slices hold the show.
abbrev pub witness_in : Result model.Comparison Refusal → Witness
witness_in (Ok C) = C.witness
witness_in (Err r) = absent

abbrev pub Holds : Result Outcome Refusal → List ℕ → List ℕ → Witness → Type 0
Holds (Ok (Absent z)) o p w = Unit {0}
Holds (Ok (Found z)) o p w =
    (z.prefix ≤ length o) × (z.period ≤ length p)
    × (take z.prefix o ≡ prefix_of w) × (take z.period p ≡ period_of w)
Holds (Err r) o p w = Unit {0}

pub record Decides (x : Result model.Comparison Refusal) (o p : List ℕ) (r : Result Outcome Refusal) : Type 0 where
  pub says : r ≡ mapped answer_of x
  pub holds : Holds r o p (witness_in x)
