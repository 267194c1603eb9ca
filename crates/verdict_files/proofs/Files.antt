-- The verdict on a lasso that is given as text: the text after the sheet, then the verdict's own refusals; and on the text of a lasso it is the
-- verdict on that lasso. Assumes nothing.
use Rattle.std.specs.Prelude.{Err}
use mathlib.Core.Path.{◌≡◌, ap, ap₂, sym, ◌∙◌}
use mathlib.Core.List.{List}
use Prim.Native.Nat.{ℕ, ◌≤◌}
use lib.ListN.{length}
use Rattle.slices.specs.declared.Part.TheVariants.{First}
use Rattle.slices.specs.declared.Refusal.{Refusal}
use Rattle.slices.specs.Refusals.{Fault, sound, fault, ◌then◌, unless}
use Rattle.slices.proofs.Refusals.{passed, failed}
use Rattle.fdfa.specs.Family.{Words}
use Rattle.fdfa.specs.Acceptance.{verdict}
use Rattle.packed.specs.Layout.{decode}
use Rattle.packed.specs.Faults.{sheet_fault}
use Rattle.membership.specs.Verdict.{lasso_fault, verdict_of}
use Rattle.lasso_text.specs.Text.{lasso_text_of, Readable}
use Rattle.lasso_text.specs.Reading.{words_in, read_fault}
use Rattle.show_files.specs.Shown.{shown}
use Rattle.show_files.proofs.Laws.{lasso-shown, lasso-room}
use Rattle.verdict_files.specs.Judged.{words_fault, file_verdict}

module _ (b t : List ℕ) (o p : ℕ) where
  -- the sheet is refused first
  pub sheet-refused : {r : Refusal} → sheet_fault First b ≡ fault r → file_verdict b t o p ≡ Err r
  unfolding file_verdict
  sheet-refused e = ap (λ (f : Fault). unless f (verdict (decode b) (words_in (shown t)).prefix (words_in (shown t)).period)) (failed _ e)

  -- then the text, or its room
  pub text-refused : {r : Refusal} → sheet_fault First b ≡ sound → read_fault (shown t) o p ≡ fault r → file_verdict b t o p ≡ Err r
  unfolding file_verdict
  text-refused g e =
      ap (λ (f : Fault). unless f (verdict (decode b) (words_in (shown t)).prefix (words_in (shown t)).period)) (passed _ g ∙ failed _ e)

  -- then it is the verdict on what was read
  pub text-judged : {u v : List ℕ} → read_fault (shown t) o p ≡ sound → u ≡ (words_in (shown t)).prefix → v ≡ (words_in (shown t)).period → verdict_of b u v ≡ file_verdict b t o p
  unfolding file_verdict lasso_fault
  text-judged e h k =
      ap₂ (verdict_of b) h k
      ∙ ap (λ (f : Fault). unless f (verdict (decode b) (words_in (shown t)).prefix (words_in (shown t)).period))
      (ap (λ (f : Fault). sheet_fault First b then f) (sym (passed (words_fault b (words_in (shown t))) e)))

-- The text of a lasso whose parts have room gets the verdict of the lasso.
pub show-judged : (b u v : List ℕ) (o p : ℕ) → Readable 32 u v → length u ≤ o → length v ≤ p → file_verdict b (lasso_text_of u v) o p ≡ verdict_of b u v
show-judged b u v o p r h k =
    let lasso = sym (lasso-shown u v r) in
    sym (text-judged b (lasso_text_of u v) o p (lasso-room u v r o p h k) (ap (λ (w : Words). w.prefix) lasso) (ap (λ (w : Words). w.period) lasso))
