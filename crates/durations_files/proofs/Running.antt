-- The running sheet of a show's text: the text's refusals, then the call's own, for which the out slice is long enough. Assumes nothing.
use Rattle.slices.specs.declared.Reason.TheVariants.{TooLittleRoom}
use Rattle.std.specs.Prelude.{Result, Err}
use mathlib.Core.Path.{◌≡◌, refl, ap, sym, ◌∙◌}
use mathlib.Core.List.{List}
use Prim.Native.Nat.{ℕ, ◌≤◌}
use native.Mathlib.Omega.{arith}
use lib.ListN.{length}
use borrow.Author.Tests.{le-ltb}
use Rattle.slices.specs.declared.Part.TheVariants.{Second, Out}
use Rattle.slices.specs.declared.Refusal.{Refusal}
use Rattle.slices.specs.Refusals.{Fault, sound, fault, unless}
use Rattle.slices.specs.Filling.{Fills}
use Rattle.slices.proofs.Refusals.{passed, failed, then-left, when-passes}
use Rattle.slices.proofs.Filling.{fills-as}
use Rattle.fdfa.specs.Family.{Lasso}
use Rattle.fdfa.proofs.Letters.{lasso-more}
use Rattle.lasso_text.specs.Reading.{text_fault, read_fault}
use Rattle.lasso_text.proofs.Laws.{read_is}
use Rattle.running_sheet.specs.Text.{running_sheet_of}
use Rattle.running_sheet.specs.Writing.{input_fault, write_fault}
use Rattle.running_sheet.proofs.Measures.{running-few}
use Rattle.running_sheet.proofs.Faults.{sound-printable, measurable}
use Rattle.show_files.specs.Shown.{shown}
use Rattle.show_files.proofs.Openings.{both-few}
use Rattle.sheet_forms.specs.Forms.{FillsWith}
use Rattle.sheet_forms.proofs.Results.{result-refused, result_as, result-unless}
use Rattle.durations_files.specs.Decided.{prefix_shown, period_shown, running}

module _ (w t : List ℕ) where
  -- the show's text, or its room
  pub running-unread : {old : List ℕ} {r : Refusal} → read_fault (shown t) 4096 4096 ≡ fault r → FillsWith (running w t) old old (Err r)
  unfolding running
  running-unread e = result-refused (ap (λ (f : Fault). unless f (running_sheet_of (prefix_shown t) (period_shown t) w)) (failed _ e)) refl

  module _ (read : read_fault (shown t) 4096 4096 ≡ sound) where
    lasso : Lasso 256 (prefix_shown t) (period_shown t)
    lasso = lasso-more (omega arith) (read_is 32 Second t (then-left (text_fault (shown t)) _ read)).0

    -- every running sheet has room
    enough : {room : ℕ} → 131146 ≤ room → (f : Fault) → input_fault (prefix_shown t) (period_shown t) w ≡ f → write_fault (prefix_shown t) (period_shown t) w room ≡ f
    enough {room} long sound e =
        let m = measurable (prefix_shown t) (period_shown t) w (sound-printable (prefix_shown t) (period_shown t) w e) in
        passed _ e
        ∙ when-passes TooLittleRoom Out _ (le-ltb room (length (running_sheet_of (prefix_shown t) (period_shown t) w))
        (omega (arith, long, (both-few t read).0, (both-few t read).1, running-few (prefix_shown t) (period_shown t) w lasso.prefix lasso.period m.0 m.1)))
    enough long (fault r) e = failed _ e

    -- what was read, as it lies in slices
    pub running-read : {u v old out : List ℕ} {r : Result ℕ Refusal} → u ≡ prefix_shown t → v ≡ period_shown t → 131146 ≤ length old
        → Fills (write_fault u v w (length old)) (running_sheet_of u v w) old out r → FillsWith (running w t) old out r
    unfolding running
    running-read {old = old} e d long h =
        let h' : Fills (write_fault (prefix_shown t) (period_shown t) w (length old)) (running_sheet_of (prefix_shown t) (period_shown t) w) old _ _ = rw (e, d) at h in
        result_as (ap (λ (f : Fault). unless f (running_sheet_of (prefix_shown t) (period_shown t) w)) (sym (passed _ read)))
        (result-unless (input_fault (prefix_shown t) (period_shown t) w) (running_sheet_of (prefix_shown t) (period_shown t) w) (fills-as (enough long _ refl) h'))
