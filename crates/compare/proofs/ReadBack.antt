-- The second block that is printed is the text of the counter-show: the reader of lassos takes it, with the room that the verdict program has
-- too, and reads that show. Assumes nothing.
use Rattle.slices.specs.declared.Reason.TheVariants.{TooLittleRoom, FoundTooLong}
use Rattle.std.specs.Prelude.{Ok}
use mathlib.Core.Path.{◌≡◌, ap, sym, ◌∙◌}
use mathlib.Core.Bool.{Bool, cond}
use mathlib.Core.List.{List, ◌++◌}
use Prim.Native.Nat.{ℕ, ◌≤◌}
use native.Mathlib.Omega.{arith}
use lib.Dec.{ltb}
use lib.ListN.{length}
use borrow.Author.Tests.{ltb-false, le-ltb}
use Rattle.slices.specs.declared.Part.{Part}
use Rattle.slices.specs.declared.Part.TheVariants.{Opening, Loop}
use Rattle.slices.specs.Refusals.{Fault, sound, ◌then◌, when}
use Rattle.slices.proofs.Refusals.{passed, then-left, then-right, when-sound, when-passes}
use Rattle.fdfa.specs.Enumeration.{Witness, lasso}
use Rattle.fdfa.specs.Inclusion as model
use Rattle.packed.specs.Faults.{pair_fault}
use Rattle.lasso_text.specs.Text.{lasso_text_of, Readable}
use Rattle.lasso_text.specs.Reading.{words_of, words_in, read_fault}
use Rattle.lasso_text.proofs.Laws.{text-lasso, text-read}
use Rattle.lasso_search.specs.Lassos.{prefix_of, period_of, room_fault}
use Rattle.inclusion.specs.Outcomes.{numbers_of, is_absent}
use Rattle.inclusion.specs.Calls as calls
use Rattle.inclusion.specs.Calls.{compare_start}
use Rattle.inclusion.proofs.Verdicts.{missing-lasso}
use Rattle.compare_files.specs.Decided.{room, compared, decided}
use Rattle.compare.specs.Text.{contained, missing, verdict_block, standing_block, answer_text, program_text}
use Rattle.compare_files.proofs.Laws.{Were, decided-were}

module _ (any : Bool) (b c : List ℕ) {C : model.Comparison} {u v : List ℕ} (told : decided any b c ≡ Ok C) (found : C.witness ≡ lasso u v) where
  pub printed : program_text any b c ≡ verdict_block missing (numbers_of C) ++ lasso_text_of u v ++ standing_block (numbers_of C)
  printed =
      ap answer_text told
      ∙ ap (λ (w : Witness). cond (is_absent w) (verdict_block contained (numbers_of C) ++ standing_block (numbers_of C))
      (verdict_block missing (numbers_of C) ++ lasso_text_of (prefix_of w) (period_of w) ++ standing_block (numbers_of C))) found

  were : Were any b c C
  were = decided-were any b c told

  shown : (compared were.first were.second).witness ≡ lasso u v
  shown = ap (λ (x : model.Comparison). x.witness) (sym were.is) ∙ found

  readable : Readable 32 u v
  readable = missing-lasso were.first were.second (then-left (pair_fault were.first were.second) _ (then-left (compare_start were.first were.second 8192) _ were.fine)) shown

  fits : (length u ≤ 4096) × (length v ≤ 4096)
  fits = (
    ltb-false 4096 (length u) (when-sound (ltb 4096 (length u)) FoundTooLong Opening (length u) (then-left one two rooms)),
    ltb-false 4096 (length v) (when-sound (ltb 4096 (length v)) FoundTooLong Loop (length v) (then-right one two rooms)),
  )
    where
      one : Fault
      one = when (ltb 4096 (length u)) FoundTooLong Opening (length u)

      two : Fault
      two = when (ltb 4096 (length v)) FoundTooLong Loop (length v)

      rooms : one then two ≡ sound
      rooms = sym (ap (λ (w : Witness). room_fault w (calls.lasso room)) shown) ∙ then-right (compare_start were.first were.second 8192) _ were.fine

  pub read_back : (part : Part) → (read_fault (words_of 32 part (lasso_text_of u v)) 4096 4096 ≡ sound) × (words_in (words_of 32 part (lasso_text_of u v)) ≡ record { prefix = u; period = v })
  read_back part = (
    text-read 32 part (omega arith) u v readable 4096 4096
        ∙ (passed _ (when-passes TooLittleRoom Opening (length u) (le-ltb 4096 (length u) fits.0)) ∙ when-passes TooLittleRoom Loop (length v) (le-ltb 4096 (length v) fits.1)),
    text-lasso 32 part (omega arith) u v readable,
  )
