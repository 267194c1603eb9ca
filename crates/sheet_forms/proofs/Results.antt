-- A slice that was filled with a result, or left as it was where the result is a refusal. Assumes nothing.
use Rattle.std.specs.Prelude.{Result, Ok, Err}
use mathlib.Core.Path.{◌≡◌, ap, sym, subst, ◌∙◌}
use mathlib.Core.List.{List}
use Prim.Native.Nat.{ℕ}
use lib.ListN.{length}
use Rattle.slices.specs.declared.Refusal.{Refusal}
use Rattle.slices.specs.Refusals.{Fault, sound, fault, unless, fault_in}
use Rattle.slices.specs.Filling.{written, filled, Fills}
use Rattle.sheet_forms.specs.Forms.{bytes_from, FillsWith}

abbrev answer : Result (List ℕ) Refusal → Result ℕ Refusal
answer x = unless (fault_in x) (length (bytes_from x))

abbrev left : List ℕ → Result (List ℕ) Refusal → List ℕ
left old x = filled (fault_in x) (bytes_from x) old

module _ {x : Result (List ℕ) Refusal} {old out : List ℕ} where
  pub result-refused : {q : Refusal} → x ≡ Err q → out ≡ old → FillsWith x old out (Err q)
  result-refused e o = record { says = ap answer (sym e); cells = o ∙ ap (left old) (sym e) }

  pub result-given : {b : List ℕ} {n : ℕ} → x ≡ Ok b → n ≡ length b → out ≡ written b old → FillsWith x old out (Ok n)
  result-given e l o = record { says = ap Ok l ∙ ap answer (sym e); cells = o ∙ ap (left old) (sym e) }

  -- the same result by another name
  pub result_as : {y : Result (List ℕ) Refusal} {r : Result ℕ Refusal} → x ≡ y → FillsWith x old out r → FillsWith y old out r
  result_as {r = r} e h = subst (λ (z : Result (List ℕ) Refusal). FillsWith z old out r) e h

-- a call that fills the slice where nothing is refused
pub result-unless : (f : Fault) (new : List ℕ) {old out : List ℕ} {r : Result ℕ Refusal} → Fills f new old out r → FillsWith (unless f new) old out r
result-unless sound new h = h
result-unless (fault q) new h = record { says = h.says; cells = h.cells }
