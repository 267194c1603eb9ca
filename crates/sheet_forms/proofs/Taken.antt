-- What the answer says of the packed sheet of a file, for the programs. Assumes nothing.
use Rattle.std.specs.Prelude.{Result, Ok, Err}
use mathlib.Core.Path.{◌≡◌, ap, sym, ◌∙◌}
use mathlib.Core.List.{List}
use Prim.Native.Nat.{ℕ, ◌≤◌}
use lib.ListN.{length, take}
use Rattle.slices.specs.declared.Part.{Part}
use Rattle.slices.specs.declared.Refusal.{Refusal}
use Rattle.slices.specs.Refusals.{fault_in}
use Rattle.slices.proofs.Refusals.{was-given, was-refused, sound-given}
use Rattle.slices.proofs.Filling.{filled-front}
use Rattle.sheet_forms.specs.declared.Form.{Form}
use Rattle.sheet_forms.specs.Forms.{bytes_from, FillsWith, sheet_as}
use Rattle.sheet_forms.proofs.Answers.{fault-refused}
use Rattle.sheet_forms.proofs.Results.{result_as}

module _ (x : Result (List ℕ) Refusal) {old out : List ℕ} {r : Result ℕ Refusal} (h : FillsWith x old out r) where
  pub was-refused-for : {q : Refusal} → r ≡ Err q → x ≡ Err q
  was-refused-for e = fault-refused x (was-refused (fault_in x) (length (bytes_from x)) (sym e ∙ h.says))

  pub was-filled-with : {n : ℕ} → r ≡ Ok n → (n ≤ length out) × (x ≡ Ok (take n out))
  was-filled-with {n} e =
      let g = was-given (fault_in x) (length (bytes_from x)) (sym e ∙ h.says) in
      let y = sound-given x g.0 in
      let f = filled-front (bytes_from x) old g.0 g.1 h.cells in
      (f.0, y.1 ∙ ap Ok (sym (ap bytes_from y.1) ∙ sym f.1))

-- the form in which the file was packed is the file's
pub packed_as : (part : Part) (b : List ℕ) {f g : Form} {old out : List ℕ} {r : Result ℕ Refusal} → f ≡ g → FillsWith (sheet_as f part b) old out r
    → FillsWith (sheet_as g part b) old out r
packed_as part b e h = result_as (ap (λ (x : Form). sheet_as x part b) e) h
