-- What the answer of reading a text says of the slices: the packed sheet has a first byte, and by it the cells that have seconds are counted.
-- Assumes nothing.
use Rattle.std.specs.Prelude.{Result, Ok, Err}
use mathlib.Core.Path.{◌≡◌, ap, sym, ◌∙◌}
use mathlib.Core.List.{List}
use Prim.Native.Nat.{ℕ, ◌≤◌, ◌<◌}
use native.Mathlib.Omega.{arith}
use lib.ListN.{length, get_or, take}
use Rattle.slices.specs.declared.Refusal.{Refusal}
use Rattle.slices.specs.Refusals.{Fault, sound, fault, fault_in}
use Rattle.slices.specs.Filling.{written, filled}
use Rattle.slices.proofs.Refusals.{then-left, was-given, was-refused}
use Rattle.slices.proofs.Filling.{filled-front}
use Rattle.slices.proofs.Tables.{get_or-first}
use Rattle.blocks.specs.Text.{timed}
use Rattle.notation.specs.declared.Levelled.{Levelled}
use Rattle.notation.specs.Reading.{Sheet, sheet_in, said, room_fault, read_fault, told_of, SheetRead}
use Rattle.notation.specs.Writing.{Writable}
use Rattle.notation.proofs.Laws.{read-writable}

module _ {x : Result Sheet Refusal} {sheet cells sheet' cells' : List ℕ} {r : Result Levelled Refusal} (h : SheetRead x sheet cells sheet' cells' r) where
  pub read-refused : {q : Refusal} → r ≡ Err q → read_fault x (length sheet) (length cells) ≡ fault q
  read-refused e = was-refused (read_fault x (length sheet) (length cells)) (told_of (said x)) (sym e ∙ h.says)

  pub read-given : {level n : ℕ} → r ≡ Ok (record { level = level; filled = n })
      → (read_fault x (length sheet) (length cells) ≡ sound) × (record { level = level; filled = n } ≡ told_of (said x))
  read-given e = was-given (read_fault x (length sheet) (length cells)) (told_of (said x)) (sym e ∙ h.says)

-- a text that was read
module _ (t : List ℕ) {sheet cells sheet' cells' : List ℕ} {r : Result Levelled Refusal} {level n : ℕ} (h : SheetRead (sheet_in t) sheet cells sheet' cells' r) (e : r ≡ Ok (record { level = level; filled = n })) where
  nothing : (read_fault (sheet_in t) (length sheet) (length cells) ≡ sound) × (record { level = level; filled = n } ≡ told_of (said (sheet_in t)))
  nothing = read-given h e

  bytes-room : n ≤ length sheet'
  bytes-room = (filled-front (said (sheet_in t)).bytes sheet nothing.0 (ap (λ (x : Levelled). x.filled) nothing.1) h.sheet).0

  read : Writable (said (sheet_in t))
  read = read-writable t (then-left (fault_in (sheet_in t)) (room_fault (said (sheet_in t)) (length sheet) (length cells)) nothing.0)

  some : 0 < length (said (sheet_in t)).bytes
  some = omega (arith, read.valid.header.long)

  pub first_byte : 0 < length sheet'
  first_byte = omega (arith, some, bytes-room, ap (λ (x : Levelled). x.filled) nothing.1)

  -- by the first byte of the packed sheet, the cells that have seconds
  module _ {first m : ℕ} (f : first ≡ get_or sheet' 0 0) (k : m ≡ timed level first) where
    pub cells_count : m ≡ length (said (sheet_in t)).seconds
    unfolding written
    cells_count =
        k
        ∙ (ap (timed level) (f
        ∙ (ap (λ (b : List ℕ). get_or b 0 0) (h.sheet ∙ ap (λ (g : Fault). filled g (said (sheet_in t)).bytes sheet) nothing.0)
        ∙ get_or-first (said (sheet_in t)).bytes _ 0 some))
        ∙ (ap (λ (x : Levelled). timed x.level (get_or (said (sheet_in t)).bytes 0 0)) nothing.1 ∙ sym read.exact))

    pub cells-front : (m ≤ length cells') × (take m cells' ≡ (said (sheet_in t)).seconds)
    cells-front = filled-front (said (sheet_in t)).seconds cells nothing.0 cells_count h.times
