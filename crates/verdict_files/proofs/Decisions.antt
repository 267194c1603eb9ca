-- What the code answers is what is judged of the files: of the sheet that the first one is, and of their lengths; and of a packed sheet, without
-- names, it is the verdict on its bytes. Assumes nothing.
use Rattle.std.specs.Prelude.{Result, Ok, Err}
use Rattle.slices.specs.Refusals.{fault_in}
use mathlib.Core.Path.{◌≡◌, refl, ap, sym, ◌∙◌}
use mathlib.Core.Bool.{Bool, false}
use mathlib.Core.List.{List}
use Prim.Native.Nat.{ℕ, ◌≤◌}
use lib.ListN.{length}
use Rattle.slices.specs.declared.Part.TheVariants.{First}
use Rattle.slices.specs.declared.Refusal.{Refusal}
use Rattle.slices.specs.Refusals.{Fault, sound, fault, unless}
use Rattle.fdfa.specs.Acceptance.{Verdict}
use Rattle.packed.specs.Faults.{sheet_fault}
use Rattle.console.specs.Files.{lengths_fault, after}
use Rattle.console.proofs.Lengths.{too_long, short-enough, lengths-good}
use Rattle.verdict_files.specs.Judged.{file_verdict, of_sheet, sheet_of, judged}
use Rattle.verdict_files.proofs.Files.{sheet-refused}

-- the sheet
pub sheet-read : (x : Result (List ℕ) Refusal) (t : List ℕ) {b : List ℕ} {v : Result Verdict Refusal} → x ≡ Ok b → v ≡ file_verdict b t 4096 4096
    → v ≡ of_sheet x t
sheet-read x t e d = d ∙ ap (λ (y : Result (List ℕ) Refusal). of_sheet y t) (sym e)

-- the lengths
module _ (any : Bool) (b t : List ℕ) {l : Result Unit Refusal} (h : fault_in l ≡ lengths_fault (length b) (length t)) where
  pub length-refused : {q : Refusal} → l ≡ Err q → Err q ≡ judged any b t
  unfolding judged
  length-refused e = sym (too_long (of_sheet (sheet_of any b) t) h e)

  pub length-good : {v : Result Verdict Refusal} → l ≡ Ok tt → v ≡ of_sheet (sheet_of any b) t → v ≡ judged any b t
  unfolding judged
  length-good e d = d ∙ sym (short-enough (of_sheet (sheet_of any b) t) h e)

-- without names: as the verdict on the bytes, whatever they are
pub packed-judged : (b t : List ℕ) → length b ≤ 65536 → length t ≤ 65536 → judged false b t ≡ file_verdict b t 4096 4096
unfolding judged
packed-judged b t h k =
    ap (λ (f : Fault). after f (of_sheet (sheet_of false b) t)) (lengths-good (length b) (length t) h k)
    ∙ by (sheet_fault First b) refl
  where
    by : (f : Fault) → sheet_fault First b ≡ f → of_sheet (unless f b) t ≡ file_verdict b t 4096 4096
    by sound e = refl
    by (fault r) e = sym (sheet-refused b t 4096 4096 e)
