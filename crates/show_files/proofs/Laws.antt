-- The text of a lasso is read where its parts have room, and its words are the lasso. Assumes nothing.
use Rattle.slices.specs.declared.Reason.TheVariants.{TooLittleRoom}
use mathlib.Core.Path.{◌≡◌, ◌∙◌}
use mathlib.Core.List.{List}
use Prim.Native.Nat.{ℕ, ◌≤◌}
use native.Mathlib.Omega.{arith}
use lib.ListN.{length}
use borrow.Author.Tests.{le-ltb}
use Rattle.slices.specs.declared.Part.TheVariants.{Second, Opening, Loop}
use Rattle.slices.specs.Refusals.{sound}
use Rattle.slices.proofs.Refusals.{passed, when-passes}
use Rattle.lasso_text.specs.Text.{lasso_text_of, Readable}
use Rattle.lasso_text.specs.Reading.{words_in, read_fault}
use Rattle.lasso_text.proofs.Laws.{text-lasso, text-read}
use Rattle.show_files.specs.Shown.{shown}

module _ (u v : List ℕ) (r : Readable 32 u v) where
  pub lasso-shown : words_in (shown (lasso_text_of u v)) ≡ record { prefix = u; period = v }
  lasso-shown = text-lasso 32 Second (omega arith) u v r

  pub lasso-room : (o p : ℕ) → length u ≤ o → length v ≤ p → read_fault (shown (lasso_text_of u v)) o p ≡ sound
  lasso-room o p h k =
      text-read 32 Second (omega arith) u v r o p
      ∙ (passed _ (when-passes TooLittleRoom Opening (length u) (le-ltb o (length u) h)) ∙ when-passes TooLittleRoom Loop (length v) (le-ltb p (length v) k))
