-- What the code answers is what is decided of the files: of the cells of the first one, and of their lengths. Assumes nothing.
use Rattle.std.specs.Prelude.{Result, Ok, Err}
use Rattle.slices.specs.Refusals.{fault_in}
use mathlib.Core.Path.{◌≡◌, refl, ap, sym}
use mathlib.Core.List.{List}
use Prim.Native.Nat.{ℕ}
use lib.ListN.{length}
use Rattle.slices.specs.declared.Refusal.{Refusal}
use Rattle.console.specs.Files.{lengths_fault}
use Rattle.console.proofs.Lengths.{too_long, short-enough}
use Rattle.sheet_forms.specs.Forms.{FillsWith}
use Rattle.sheet_forms.proofs.Results.{result-refused, result_as}
use Rattle.durations_files.specs.Decided.{cells_in, running, of_cells, decided}

-- the cells
module _ (x : Result (List ℕ) Refusal) (t : List ℕ) {old : List ℕ} where
  pub cells-unread : {q : Refusal} → x ≡ Err q → FillsWith (of_cells x t) old old (Err q)
  cells-unread e = result-refused (ap (λ (y : Result (List ℕ) Refusal). of_cells y t) e) refl

  pub cells-read : {w out : List ℕ} {r : Result ℕ Refusal} → x ≡ Ok w → FillsWith (running w t) old out r → FillsWith (of_cells x t) old out r
  cells-read e h = result_as (ap (λ (y : Result (List ℕ) Refusal). of_cells y t) (sym e)) h

-- the lengths
module _ (b t : List ℕ) {l : Result Unit Refusal} {old : List ℕ} (h : fault_in l ≡ lengths_fault (length b) (length t)) where
  pub length-refused : {q : Refusal} → l ≡ Err q → FillsWith (decided b t) old old (Err q)
  unfolding decided
  length-refused e = result-refused (too_long (of_cells (cells_in b) t) h e) refl

  pub length-good : {out : List ℕ} {r : Result ℕ Refusal} → l ≡ (Ok tt) → FillsWith (of_cells (cells_in b) t) old out r → FillsWith (decided b t) old out r
  unfolding decided
  length-good e d = result_as (sym (short-enough (of_cells (cells_in b) t) h e)) d
