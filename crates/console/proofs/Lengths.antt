-- What is said of files by their lengths: the refusal, or what is said of files that are short enough. Assumes nothing.
use Rattle.slices.specs.declared.Reason.TheVariants.{FileTooLong}
use Rattle.std.specs.Prelude.{Result, Ok, Err}
use Rattle.slices.specs.Refusals.{fault_in}
use mathlib.Core.Path.{◌≡◌, ap, sym, ◌∙◌}
use Prim.Native.Nat.{ℕ, ◌≤◌}
use borrow.Author.Tests.{le-ltb}
use Rattle.slices.specs.declared.Part.TheVariants.{First, Second}
use Rattle.slices.specs.declared.Refusal.{Refusal}
use Rattle.slices.specs.Refusals.{Fault, sound}
use Rattle.slices.proofs.Refusals.{passed, when-passes}
use Rattle.console.specs.Files.{lengths_fault, after}

module _ {A : Type 0} (x : Result A Refusal) {f : Fault} {l : Result Unit Refusal} (h : fault_in l ≡ f) where
  pub too_long : {q : Refusal} → l ≡ Err q → after f x ≡ Err q
  too_long e = ap (λ (g : Fault). after g x) (sym h ∙ ap fault_in e)

  pub short-enough : l ≡ Ok tt → after f x ≡ x
  short-enough e = ap (λ (g : Fault). after g x) (sym h ∙ ap fault_in e)

pub lengths-good : (n m : ℕ) → n ≤ 65536 → m ≤ 65536 → lengths_fault n m ≡ sound
lengths-good n m h k = passed _ (when-passes FileTooLong First 65536 (le-ltb 65536 n h)) ∙ when-passes FileTooLong Second 65536 (le-ltb 65536 m k)
