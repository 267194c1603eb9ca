-- What the verdict program prints. Assumes nothing.
use Rattle.std.specs.Prelude.{Bool, true, false, List, ◌++◌, ℕ, Result, Ok, Err}
use Prim.Native.Char.{code}
use Rattle.slices.specs.declared.Refusal.{Refusal}
use Rattle.slices.specs.Texts.{bytes}
use Rattle.fdfa.specs.Acceptance.{Verdict}
use Rattle.numbers.specs.Digits.{field}
use Rattle.console.specs.Printed.{refusal_text_of}
use Rattle.verdict_files.specs.Judged.{judged}

abbrev pub title : List ℕ
title = bytes "verdict i j place end\n"

abbrev pub word : Bool → List ℕ
word true = bytes "accepted "
word false = bytes "rejected "

-- The line of names, then the verdict, i, j, the leading state and the state at the end.
abbrev pub verdict_block : Verdict → List ℕ
verdict_block x =
    title ++ word x.accepted ++ field x.i (code " ") ++ field x.j (code " ") ++ field x.state (code " ")
    ++ field x.end (code "\n")

-- The block, or the refusal.
abbrev pub verdict_text_of : Result Verdict Refusal → List ℕ
verdict_text_of (Ok x) = verdict_block x
verdict_text_of (Err r) = refusal_text_of r

-- What is printed for the bytes that came of two files, the sheet in any form or packed only.
abbrev pub program_text : Bool → List ℕ → List ℕ → List ℕ
program_text any b t = verdict_text_of (judged any b t)
