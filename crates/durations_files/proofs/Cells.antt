-- The seconds of a sheet's text lie at the front of the cells, and there is room for every text. Assumes nothing.
use Rattle.std.specs.Prelude.{Result, Ok, Err}
use Rattle.std.specs.Result.{result_unwrap_or}
use mathlib.Core.Path.{◌≡◌, refl, ap, sym, ◌∙◌}
use mathlib.Core.List.{List}
use Prim.Native.Nat.{ℕ, ◌≤◌}
use lib.ListN.{length, get_or}
use Rattle.slices.specs.declared.Refusal.{Refusal}
use Rattle.slices.specs.Refusals.{Fault, unless, mapped, fault_in}
use Rattle.slices.specs.Filling.{filled}
use Rattle.slices.proofs.Refusals.{sound-given}
use Rattle.blocks.specs.Text.{timed}
use Rattle.notation.specs.declared.Levelled.{Levelled}
use Rattle.notation.specs.Reading.{Sheet, sheet_in, said, read_fault, SheetRead}
use Rattle.notation.proofs.Taken.{read-refused, read-given, cells_count}
use Rattle.sheet_forms.specs.Forms.{bytes_from, FillsWith}
use Rattle.sheet_forms.proofs.Rooms.{text-room}
use Rattle.sheet_forms.proofs.Results.{result-refused, result-given}
use Rattle.sheet_forms.proofs.Answers.{fault-refused}
use Rattle.durations_files.specs.Decided.{seconds_in, cells_in, cell_count}

-- what was read
module _ (t : List ℕ) {sheet cells sheet' cells' : List ℕ} {r : Result Levelled Refusal} (long : 34850 ≤ length sheet) (many : length cells ≡ 32) (h : SheetRead (sheet_in t) sheet cells sheet' cells' r) where
  judged : read_fault (sheet_in t) (length sheet) (length cells) ≡ fault_in (sheet_in t)
  judged = ap (read_fault (sheet_in t) (length sheet)) many ∙ text-room (length sheet) long t

  pub cells-refused : {q : Refusal} → r ≡ Err q → FillsWith (cells_in t) cells cells' (Err q)
  cells-refused e =
      let g = read-refused h e in
      result-refused (ap (mapped seconds_in) (fault-refused (sheet_in t) (sym judged ∙ g))) (h.times ∙ ap (λ (f : Fault). filled f (said (sheet_in t)).seconds cells) g)

  pub cells-filled : {level n first m : ℕ} → r ≡ Ok (record { level = level; filled = n }) → first ≡ get_or sheet' 0 0 → m ≡ timed level first → FillsWith (cells_in t) cells cells' (Ok m)
  cells-filled e f k =
      let g = read-given h e in
      let y = sound-given (sheet_in t) (sym judged ∙ g.0) in
      result-given (ap (mapped seconds_in) y.1)
      (cells_count t h e f k ∙ ap (λ (x : Result Sheet Refusal). length (said x).seconds) y.1)
      (h.times ∙ (λ i. filled (g.0 i) (said (y.1 i)).seconds cells))

-- how many there are
module _ (t : List ℕ) {cells cells' : List ℕ} {r : Result ℕ Refusal} (h : FillsWith (cells_in t) cells cells' r) where
  pub count-is : {n : ℕ} → n ≡ result_unwrap_or r 0 → n ≡ cell_count t
  count-is e = e ∙ (ap (λ (x : Result ℕ Refusal). result_unwrap_or x 0) h.says ∙ by (cells_in t))
    where
      by : (x : Result (List ℕ) Refusal) → result_unwrap_or (unless (fault_in x) (length (bytes_from x))) 0 ≡ length (bytes_from x)
      by (Ok b) = refl
      by (Err q) = refl
