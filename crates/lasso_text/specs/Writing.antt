-- Writing the text of a lasso. Assumes nothing.
use Rattle.slices.specs.declared.Reason.TheVariants.{TooLittleRoom}
use Rattle.std.specs.Prelude.{List, ℕ, ltb, length}
use Rattle.slices.specs.declared.Part.TheVariants.{Out}
use Rattle.slices.specs.Capped.{capped}
use Rattle.slices.specs.Refusals.{Fault, ◌then◌, when}
use Rattle.slices.specs.LassoLetters.{letters_fault}
use Rattle.lasso_text.specs.Text.{lasso_text_of}

-- The lasso's fault over 32 letters, then too little room where the out slice is too short.
abbrev pub write_fault : List ℕ → List ℕ → ℕ → Fault
write_fault u v room =
    letters_fault 32 u v
    then when (ltb room (length (lasso_text_of u v))) TooLittleRoom Out (capped (length (lasso_text_of u v)))
