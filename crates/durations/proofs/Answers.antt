-- What is printed and said, answer by answer. Assumes nothing.
use Rattle.std.specs.Prelude.{Result, Ok, Err}
use mathlib.Core.Path.{◌≡◌, ap, sym, subst, ◌∙◌}
use mathlib.Core.List.{List}
use Prim.Native.Nat.{ℕ}
use native.Mathlib.Omega.{arith}
use lib.ListN.{length}
use Rattle.slices.specs.declared.Refusal.{Refusal}
use Rattle.slices.specs.Refusals.{Fault, fault_in}
use Rattle.slices.proofs.Refusals.{was-given}
use Rattle.slices.specs.Filling.{filled}
use Rattle.sheet_forms.specs.Forms.{bytes_from, FillsWith}
use Rattle.sheet_forms.proofs.Taken.{was-refused-for, was-filled-with}
use Rattle.console.specs.Printed.{Shows, refusal_text_of}
use Rattle.console.proofs.Printed.{shows-none, shows-as}
use Rattle.wording.specs.Words.{File}
use Rattle.durations.specs.Text.{answer_text}
use Rattle.durations.specs.Said.{refused_words, said_of}

module _ (x : Result (List ℕ) Refusal) {old out : List ℕ} {r : Result ℕ Refusal} (h : FillsWith x old out r) where
  -- a running sheet lies in the slice already
  pub given-shown : {n : ℕ} → r ≡ Ok n → length out ≡ length old → Shows (answer_text x) old out n
  given-shown {n} e l =
      let g = was-given (fault_in x) (length (bytes_from x)) (sym (e) ∙ h.says) in
      let d = was-filled-with x h e in
      shows-as (ap bytes_from d.1 ∙ sym (ap answer_text d.1))
      (record { says = g.1; fits = omega (arith, d.0, l); cells = h.cells ∙ ap (λ (f : Fault). filled f (bytes_from x) old) g.0 })

  pub given-unsaid : (one two : File) (said : List ℕ) {n : ℕ} → r ≡ Ok n → Shows (said_of one two x) said said 0
  given-unsaid one two said e = shows-as (ap (said_of one two) (sym (was-filled-with x h e).1)) (shows-none said)

  -- a refusal is written over what the slice held
  pub refused-shown : {q : Refusal} {new : List ℕ} {n : ℕ} → r ≡ Err q → Shows (refusal_text_of q) out new n → Shows (answer_text x) old new n
  refused-shown {q} {new} {n} e s =
      let d = was-refused-for x h e in
      subst (λ (l : List ℕ). Shows (answer_text x) l new n) (h.cells ∙ ap (λ (y : Result (List ℕ) Refusal). filled (fault_in y) (bytes_from y) old) d)
      (shows-as (ap answer_text (sym d)) s)

  pub refused-said : (one two : File) {q : Refusal} {said new : List ℕ} {n : ℕ} → r ≡ Err q → Shows (refused_words one two q) said new n → Shows (said_of one two x) said new n
  refused-said one two e s = shows-as (ap (said_of one two) (sym (was-refused-for x h e))) s
