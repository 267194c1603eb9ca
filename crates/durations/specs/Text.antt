-- What the durations program prints. Assumes nothing.
use Rattle.std.specs.Prelude.{List, ℕ, Result, Ok, Err}
use Rattle.slices.specs.declared.Refusal.{Refusal}
use Rattle.console.specs.Printed.{refusal_text_of}
use Rattle.durations_files.specs.Decided.{decided}

-- The running sheet, or the refusal.
abbrev pub answer_text : Result (List ℕ) Refusal → List ℕ
answer_text (Ok x) = x
answer_text (Err r) = refusal_text_of r

-- What is printed for the bytes that came of two files: a sheet's text, and a show's.
abbrev pub program_text : List ℕ → List ℕ → List ℕ
program_text b t = answer_text (decided b t)
